-- Outputs as JSON.
use Rattle.std.specs.Prelude.{◌≡◌, ℕ, ◌⊎◌, List, codes}
use Rattle.hex.specs.Hex.{encode_lower}
use Rattle.map_body.specs.Body.{Body}
use Rattle.map_body.specs.Layout.{IsBody}
use Rattle.grant_machine.specs.declared.output.Output.{Output}
use Rattle.grant_machine.specs.declared.output.Output.TheVariants.{Nothing, ChannelSet, Assigned, Map, Refused}
use Rattle.serde_json.specs.Data.{Data, null, object, Members, no_members, put}
use Rattle.json_outputs.specs.Names.{refusal_name}
use Rattle.json_outputs.specs.Fields.{with_number, with_text, with_time}
use Rattle.json_outputs.specs.Elements.{elements_data}

-- the elements of the body that these bytes are; null, where they are none
abbrev pub TellsElements : List ℕ → Data → Type 0
TellsElements bytes d =
    ((map : Body) × IsBody bytes map × (d ≡ elements_data map.elements)) ⊎ (((map : Body) → ¬ IsBody bytes map) × (d ≡ null))

-- a MAP's channel and minislots, beside other fields
abbrev pub with_span : (ch start len : ℕ) → Members → Members
with_span ch start len ms =
    with_number (codes "len") len (with_time (codes "start") start (with_number (codes "channel") ch (with_text (codes "output") (codes "map") ms)))

-- its bytes, beside other fields
abbrev pub with_bytes : List ℕ → Members → Members
with_bytes bytes ms = with_text (codes "bytes") (encode_lower bytes) ms

-- its bytes and elements, beside other fields
abbrev pub TellsBody : List ℕ → Members → Members → Type 0
TellsBody bytes old new = (elements : Data) × TellsElements bytes elements × (new ≡ put (codes "elements") elements (with_bytes bytes old))

-- the fields of an output, beside others
abbrev pub TellsOutput : Output → Members → Members → Type 0
TellsOutput Nothing old new = new ≡ with_text (codes "output") (codes "nothing") old
TellsOutput (ChannelSet ch ucd) old new =
    new ≡ with_number (codes "ucd") ucd (with_number (codes "channel") ch (with_text (codes "output") (codes "channel") old))
TellsOutput (Assigned modem ch sid first last) old new =
    new ≡ with_time (codes "last") last (with_time (codes "first") first (with_number (codes "sid") sid
    (with_number (codes "channel") ch (with_number (codes "modem") modem (with_text (codes "output") (codes "assigned") old)))))
TellsOutput (Map ch start len bytes) old new = TellsBody bytes (with_span ch start len old) new
TellsOutput (Refused number) old new =
    new ≡ with_text (codes "name") (refusal_name number) (with_number (codes "refusal") number (with_text (codes "output") (codes "refused") old))

-- the output of a command, with the command's number
abbrev pub TellsCommand : ℕ → Output → Data → Type 0
TellsCommand number o d = (ms : Members) × TellsOutput o (with_number (codes "command") number no_members) ms × (d ≡ object ms)
