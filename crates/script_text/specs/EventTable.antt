-- An event as a table of TOML. Further keys don't count.
use Rattle.std.specs.Prelude.{◌≡◌, ℕ, List, Option, Some, None, Ok, codes}
use Rattle.hex.specs.Hex.{decode_of}
use Rattle.toml.specs.Data.{Data, string, get}
use Rattle.grant_machine.specs.declared.command.Command.{Command}
use Rattle.command_log.specs.Spelling.{spelling}
use Rattle.world_events.specs.declared.event.Event.{Event}
use Rattle.world_events.specs.declared.event.Event.TheVariants.{Lead, Offer, Tell, Deliver, DeliverThenCrash, Crash}
use Rattle.world_events.specs.declared.event.Event.TheVariants.{Restart, Release, Hear, Want, Tick}
use Rattle.script_text.specs.CommandTable.{SpellsCommand}
use Rattle.script_text.specs.Fields.{HasText, HasNumber, HasNode}

-- the bytes of the command that the table spells
abbrev pub IsCommandBytes : Data → List ℕ → Type 0
IsCommandBytes d bytes = (c : Command) × SpellsCommand d c × (bytes ≡ spelling c)

-- the bytes that a text of hexadecimal digits writes: two digits a byte, of either case
abbrev pub IsHexBytes : Data → List ℕ → Type 0
IsHexBytes d bytes = (digits : List ℕ) × (d ≡ string digits) × (decode_of digits ≡ Ok bytes)

-- what is offered by a command, or by digits, but not by both or neither
abbrev pub IsOffered : Option Data → Option Data → List ℕ → Type 0
IsOffered None None bytes = ⊥
IsOffered None (Some digits) bytes = IsHexBytes digits bytes
IsOffered (Some command) None bytes = IsCommandBytes command bytes
IsOffered (Some command) (Some digits) bytes = ⊥

-- the table offers these bytes
abbrev pub OffersBytes : Data → List ℕ → Type 0
OffersBytes d bytes = IsOffered (get (codes "command") d) (get (codes "value") d) bytes

-- the table means the event
abbrev pub MeansEvent : Data → Event → Type 0
MeansEvent d (Lead k) = HasText d (codes "kind") (codes "lead") × HasNumber d (codes "node") 64 k
MeansEvent d (Offer k bytes) = HasText d (codes "kind") (codes "offer") × HasNumber d (codes "node") 64 k × OffersBytes d bytes
MeansEvent d (Tell k to place) =
    HasText d (codes "kind") (codes "tell") × HasNumber d (codes "node") 64 k × HasNode d (codes "to") to × HasNumber d (codes "place") 64 place
MeansEvent d (Deliver i) = HasText d (codes "kind") (codes "deliver") × HasNumber d (codes "letter") 64 i
MeansEvent d (DeliverThenCrash i) = HasText d (codes "kind") (codes "deliver_then_crash") × HasNumber d (codes "letter") 64 i
MeansEvent d (Crash k) = HasText d (codes "kind") (codes "crash") × HasNumber d (codes "node") 64 k
MeansEvent d (Restart k) = HasText d (codes "kind") (codes "restart") × HasNumber d (codes "node") 64 k
MeansEvent d (Release k now) = HasText d (codes "kind") (codes "release") × HasNumber d (codes "node") 64 k × HasNumber d (codes "now") 64 now
MeansEvent d (Hear m i near) =
    HasText d (codes "kind") (codes "hear") × HasNumber d (codes "modem") 64 m × HasNumber d (codes "output") 64 i × HasNumber d (codes "near") 63 near
MeansEvent d (Want m ch sid n) =
    HasText d (codes "kind") (codes "want") × HasNumber d (codes "modem") 64 m × HasNumber d (codes "ch") 8 ch
    × HasNumber d (codes "sid") 16 sid × HasNumber d (codes "n") 16 n
MeansEvent d (Tick m ch slot random) =
    HasText d (codes "kind") (codes "tick") × HasNumber d (codes "modem") 64 m × HasNumber d (codes "ch") 8 ch
    × HasNumber d (codes "slot") 63 slot × HasNumber d (codes "random") 64 random
