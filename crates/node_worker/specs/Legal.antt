-- What the records of all nodes owe.
use Rattle.std.specs.Prelude.{◌≡◌, ℕ, ◌<◌, ◌==◌, List, [], ◌∷◌, ◌++◌, length, map, filter, take, All, Contains}
use Rattle.std.specs.Prelude.{slice_get, Some}
use Rattle.std.specs.List.{flat_map}
use Rattle.ballots.specs.declared.letters.Letter.{Letter}
use Rattle.node.specs.View.{Standing}
use Rattle.seats.specs.declared.answer.ReleasedOutput.{ReleasedOutput}
use Rattle.network_script.specs.World.{released_by}
use Rattle.node_worker.specs.declared.entry.Cause.{Cause}
use Rattle.node_worker.specs.declared.entry.Cause.TheVariants.{Ask as Asked, Letter as Came}
use Rattle.node_worker.specs.declared.entry.Done.{Done}
use Rattle.node_worker.specs.Entries.{EntryView}
use Rattle.node_worker.specs.Replays.{ReplaysTo}
use Rattle.node_worker.specs.KeptView.{KeptView}
use Rattle.node_worker.specs.PlantView.{PlantView}

-- the entries of node k, in order
abbrev pub entries_of : ℕ → List Done → List EntryView
entries_of k records = map (λ d. d.entry) (filter (λ d. d.node == k) records)

-- all letters sent, in order
abbrev pub letters_of : List Done → List Letter
letters_of records = flat_map (λ d. d.entry.letters) records

-- all outputs released, in order
abbrev pub outputs_of : List Done → List ReleasedOutput
outputs_of records = flat_map (λ d. released_by d.node d.entry.outputs) records

-- a received letter is to the node, and was sent
abbrev pub Comes : List Letter → ℕ → Cause → Type 0
Comes sent node (Asked ask) = Unit {0}
Comes sent node (Came l) = (l.to ≡ node) × Contains sent l

-- each received letter is to its node, and was sent by an earlier record
abbrev pub AllCome : List Done → Type 0
AllCome records = (i : ℕ) (d : Done) → slice_get records i ≡ Some d → Comes (letters_of (take i records)) d.node d.entry.cause

-- the records are of members, each node's are a replay, and each received letter was sent before
pub record IsSound (members : ℕ) (records : List Done) : Type 0 where
  pub named : All (λ d. d.node < members) records
  pub replay : (k : ℕ) → k < members → (t : Standing) × ReplaysTo members k (entries_of k records) t
  pub come : AllCome records

-- ys begins with xs
abbrev pub Begins : List EntryView → List EntryView → Type 0
Begins xs ys = (rest : List EntryView) × (xs ++ rest ≡ ys)

-- what it takes to record this of the kept node
pub record MayRecord (plant : PlantView) (kept : KeptView) (done : Done) : Type 0 where
  pub room : length plant.records < plant.room
  pub names : done.node ≡ kept.node
  pub member : (done.node < plant.members) × (kept.members ≡ plant.members)
  pub next : Begins (entries_of done.node plant.records ++ done.entry ∷ []) kept.entries
  pub comes : Comes (letters_of plant.records) done.node done.entry.cause
