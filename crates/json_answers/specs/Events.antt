-- Events as JSON.
use Rattle.std.specs.Prelude.{◌≡◌, ℕ, Bool, true, false, List, Option, Some, None, codes}
use Rattle.std.specs.List.{AllZip}
use Rattle.seats.specs.declared.answer.ReleasedOutput.{ReleasedOutput}
use Rattle.serde_json.specs.Data.{Data, array, object, Members, no_members, put}
use Rattle.serde_json.specs.View.{items_of}
use Rattle.json_outputs.specs.Fields.{with_number, with_text}
use Rattle.json_outputs.specs.Outputs.{TellsOutput}
use Rattle.watched_runs.specs.Rows.{Row}
use Rattle.watched_runs.specs.declared.post.Post.{Post}
use Rattle.watched_runs.specs.declared.post.Post.TheVariants.{Down, Idle, Prepares, Leads}
use Rattle.watched_runs.specs.declared.sight.Sight.{Sight}
use Rattle.json_answers.specs.Letters.{with_ballot, with_letters}
use Rattle.json_answers.specs.Answers.{with_answer}

-- where an output was released: its node, and its place in the log
abbrev pub place_members : ReleasedOutput → Members
place_members x = with_number (codes "place") x.numbered.place (with_number (codes "node") x.node no_members)

-- an output that a node released
abbrev pub TellsRelease : ReleasedOutput → Data → Type 0
TellsRelease x d = (ms : Members) × TellsOutput x.numbered.output (place_members x) ms × (d ≡ object ms)

-- an event: its number and its answer
abbrev pub event_members : Row → Members
event_members row = with_answer row.answer (with_number (codes "event") row.number no_members)

-- and the outputs that it released, in order
abbrev pub TellsEvent : Row → Data → Type 0
TellsEvent row d =
    (outputs : List Data) × AllZip TellsRelease row.released outputs × (d ≡ object (put (codes "outputs") (array (items_of outputs)) (event_members row)))

-- with what a node does with a ballot
abbrev pub with_post_of : List ℕ → ℕ → Members → Members
with_post_of post ballot ms = with_ballot ballot (with_text (codes "post") post ms)

-- with what a node does as a proposer
abbrev pub with_post : Post → Members → Members
with_post Down ms = with_text (codes "post") (codes "down") ms
with_post Idle ms = with_text (codes "post") (codes "idle") ms
with_post (Prepares ballot) ms = with_post_of (codes "prepares") ballot ms
with_post (Leads ballot) ms = with_post_of (codes "leads") ballot ms

-- the same, where that changed
abbrev pub with_changed : Option Post → Members → Members
with_changed None ms = ms
with_changed (Some post) ms = with_post post ms

-- with a place that it learned
abbrev pub with_learned : Option ℕ → Members → Members
with_learned None ms = ms
with_learned (Some place) ms = with_number (codes "learned") place ms

-- with what is seen of the node that an event asks, if it asks one
abbrev pub with_sight : Option Sight → Members → Members
with_sight None ms = ms
with_sight (Some sight) ms = with_learned sight.learned (with_changed sight.post (with_number (codes "node") sight.node ms))

-- with the letters that came and those that were sent, and what is seen of a node
abbrev pub with_trace : Row → Members → Members
with_trace row ms =
    with_sight row.sight (with_letters (codes "sent") row.sent.0 row.sent.1 (with_letters (codes "came") row.came.0 row.came.1 ms))

-- an event with its trace
abbrev pub TellsTraced : Row → Data → Type 0
TellsTraced row d = (ms : Members) × TellsEvent row (object ms) × (d ≡ object (with_trace row ms))

-- an event, traced or not
abbrev pub TellsRow : Bool → Row → Data → Type 0
TellsRow true row d = TellsTraced row d
TellsRow false row d = TellsEvent row d

-- how many letters, outputs and transmissions there were
abbrev pub counts_data : (letters outputs transmissions : ℕ) → Data
counts_data letters outputs transmissions = object
    (with_number (codes "transmissions") transmissions (with_number (codes "outputs") outputs (with_number (codes "letters") letters no_members)))
