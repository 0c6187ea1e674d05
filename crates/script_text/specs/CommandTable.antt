-- A command as a table of TOML. Further keys don't count.
use Rattle.std.specs.Prelude.{◌≡◌, ℕ, ◌^◌, ◌<◌, ◌⊎◌, List, Some, None, pos, codes}
use Rattle.toml.specs.Data.{Data, integer, array, item, no_items, get}
use Rattle.flow_state.specs.declared.channel.Channel.{Channel}
use Rattle.flow_state.specs.declared.channel.Phy.{Phy}
use Rattle.flow_state.specs.declared.channel.Phy.TheVariants.{Tdma, Advanced}
use Rattle.flow_state.specs.declared.settings.ChannelSettings.{ChannelSettings}
use Rattle.flow_state.specs.declared.flow.FlowKind.{FlowKind}
use Rattle.flow_state.specs.declared.flow.FlowKind.TheVariants.{BestEffort, Ugs, Poll, Station, Initial}
use Rattle.flow_state.specs.Limits.{last_time}
use Rattle.grant_machine.specs.declared.command.Command.{Command}
use Rattle.grant_machine.specs.declared.command.Command.TheVariants as commands
use Rattle.script_text.specs.Fields.{HasText, HasNumber}

-- an array of these two whole numbers, which fit a byte each
pub record IsPair (d : Data) (p : ℕ × ℕ) : Type 0 where
  pub items : d ≡ array (item (integer (pos p.0)) (item (integer (pos p.1)) no_items))
  pub first_fits : p.0 < 2 ^ 8
  pub second_fits : p.1 < 2 ^ 8

-- the key holds such a pair
pub record HasPair (d : Data) (key : List ℕ) (p : ℕ × ℕ) : Type 0 where
  pub pair : Data
  pub held : get key d ≡ Some pair
  pub is_pair : IsPair pair p

-- the key isn't there, which stands for this
abbrev pub IsDefault : {X : Type 0} → Data → List ℕ → X → X → Type 0
IsDefault d key default x = (get key d ≡ None) × (x ≡ default)

-- a PHY by name
abbrev pub NamesPhy : Data → Phy → Type 0
NamesPhy d Tdma = HasText d (codes "phy") (codes "tdma")
NamesPhy d Advanced = HasText d (codes "phy") (codes "advanced")

-- a channel's PHY, TDMA where the key isn't there
abbrev pub HasPhy : Data → Phy → Type 0
HasPhy d phy = NamesPhy d phy ⊎ IsDefault d (codes "phy") Tdma phy

-- the fields of a channel, each under its key
pub record HasChannel (d : Data) (c : Channel) : Type 0 where
  pub id : HasNumber d (codes "ch") 8 c.id
  pub ucd : HasNumber d (codes "ucd") 8 c.ucd
  pub phy : HasPhy d c.phy
  pub short_max : HasNumber d (codes "short_max") 16 c.short_max
  pub ranging : HasPair d (codes "ranging") c.ranging_backoff
  pub data_backoff : HasPair d (codes "data") c.data_backoff
  pub base : HasNumber d (codes "base") 64 c.base

-- the settings of a change, each under its key
pub record HasSettings (d : Data) (s : ChannelSettings) : Type 0 where
  pub ucd : HasNumber d (codes "ucd") 8 s.ucd
  pub phy : NamesPhy d s.phy
  pub short_max : HasNumber d (codes "short_max") 16 s.short_max
  pub ranging : HasPair d (codes "ranging") s.ranging_backoff
  pub data_backoff : HasPair d (codes "data") s.data_backoff

-- a size, and when something of that size is due
abbrev pub HasSized : Data → (size interval jitter base : ℕ) → Type 0
HasSized d size interval jitter base =
    HasNumber d (codes "size") 16 size × HasNumber d (codes "interval") 32 interval × HasNumber d (codes "jitter") 32 jitter
    × HasNumber d (codes "base") 64 base

-- a flow's service, with what belongs to it
abbrev pub HasService : Data → FlowKind → Type 0
HasService d (BestEffort priority) = HasText d (codes "service") (codes "best_effort") × HasNumber d (codes "priority") 8 priority
HasService d (Ugs size interval jitter base) = HasText d (codes "service") (codes "ugs") × HasSized d size interval jitter base
HasService d (Station size interval jitter base) = HasText d (codes "service") (codes "station") × HasSized d size interval jitter base
HasService d (Initial size interval jitter base) = HasText d (codes "service") (codes "initial") × HasSized d size interval jitter base
HasService d (Poll interval jitter base) =
    HasText d (codes "service") (codes "poll") × HasNumber d (codes "interval") 32 interval
    × HasNumber d (codes "jitter") 32 jitter × HasNumber d (codes "base") 64 base

-- the last minislot of a flow's lease, the last time of all where the key isn't there
abbrev pub HasLast : Data → ℕ → Type 0
HasLast d last = HasNumber d (codes "last") 64 last ⊎ IsDefault d (codes "last") last_time last

-- the minislots that a cut keeps, none where the key isn't there
abbrev pub HasKeep : Data → ℕ → Type 0
HasKeep d keep = HasNumber d (codes "keep") 16 keep ⊎ IsDefault d (codes "keep") 0 keep

-- a back-off of a cut, (255, 255) for the channel's own where the key isn't there
abbrev pub HasBackoff : Data → List ℕ → ℕ × ℕ → Type 0
HasBackoff d key backoff = HasPair d key backoff ⊎ IsDefault d key (255, 255) backoff

-- the table spells the command
abbrev pub SpellsCommand : Data → Command → Type 0
SpellsCommand d commands.Noop = HasText d (codes "kind") (codes "noop")
SpellsCommand d (commands.Channel c) = HasText d (codes "kind") (codes "channel") × HasChannel d c
SpellsCommand d (commands.Change ch s) =
    HasText d (codes "kind") (codes "change") × HasNumber d (codes "ch") 8 ch × HasSettings d s
SpellsCommand d (commands.Flow ch modem tag last kind) =
    HasText d (codes "kind") (codes "flow") × HasNumber d (codes "ch") 8 ch × HasNumber d (codes "modem") 32 modem
    × HasNumber d (codes "tag") 32 tag × HasLast d last × HasService d kind
SpellsCommand d (commands.Drop ch sid) =
    HasText d (codes "kind") (codes "drop") × HasNumber d (codes "ch") 8 ch × HasNumber d (codes "sid") 16 sid
SpellsCommand d (commands.Request ch sid n sent) =
    HasText d (codes "kind") (codes "request") × HasNumber d (codes "ch") 8 ch × HasNumber d (codes "sid") 16 sid
    × HasNumber d (codes "n") 16 n × HasNumber d (codes "sent") 64 sent
SpellsCommand d (commands.Cut ch len not_before ack keep ranging sending) =
    HasText d (codes "kind") (codes "cut") × HasNumber d (codes "ch") 8 ch × HasNumber d (codes "len") 16 len
    × HasNumber d (codes "not_before") 64 not_before × HasNumber d (codes "ack") 64 ack
    × HasKeep d keep × HasBackoff d (codes "ranging") ranging × HasBackoff d (codes "data") sending
