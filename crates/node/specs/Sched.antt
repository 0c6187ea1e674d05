-- Where a node over its records stands.
use Rattle.std.specs.Prelude.{◌≡◌, ℕ, Bool, true, false, Result, Vec}
use Rattle.std.specs.declared.alloc.Global.{Global}
use Rattle.ballots.specs.Members.{member_count}
use Rattle.ballots.specs.declared.letters.Letter.{Letter}
use Rattle.acceptor.specs.Content.{Content, after_write, no_content}
use Rattle.acceptor.specs.Found.{Holds, HoldsEither}
use Rattle.learner.specs.Tally.{no_tally}
use Rattle.node.specs.View.{View, Standing}
use Rattle.node.specs.View.Standing.{Running, Stopped}
use Rattle.node.specs.Step.{Outcome}
use Rattle.node.specs.Calls.{Who, answer, CallEnds}
use Rattle.proposer.specs.declared.role.Role.TheVariants.{Idle}
use Rattle.proposer.specs.declared.fault.NodeFault.{NodeFault as Fault}
use Rattle.node.specs.declared.parts.Parts.{Parts}
use Rattle.acceptor.specs.declared.records.RecordsFault.{RecordsFault}
use Rattle.acceptor.specs.declared.records.RecordsFault.TheVariants.{Refused, Broken, OutOfMemory}

-- the view of a node, where its records hold this
abbrev pub view_over : {R : Type 0} → Parts R → Content → View
view_over n c = record { content = c; role = n.proposer.role; hint = n.proposer.hint; tally = n.knowledge.tally; cursor = n.knowledge.cursor }

-- all that a node has beside its records: its view, were they empty
abbrev pub rest_of : {R : Type 0} → Parts R → View
rest_of n = view_over n no_content

abbrev pub who_of : {R : Type 0} → (R → ℕ) → (R → Bool) → Parts R → Who
who_of count_of is_broken n = record { id = n.proposer.id; members = member_count n.proposer.members; failures = count_of n.records; broken = is_broken n.records; down = n.is_down }

-- a node that is up stands for its view over what its records hold, and one that is down for contents of which they
-- hold one
abbrev pub Stands : {R : Type 0} → (R → Content → Type 0) → Parts R → Standing → Type 0
Stands may_find n (Running view) = (n.is_down ≡ false) × (view ≡ view_over n view.content) × Holds (may_find n.records) view.content
Stands may_find n (Stopped c doubt) = (n.is_down ≡ true) × HoldsEither (may_find n.records) c (after_write c doubt)

-- a part of a call of a node that is up: whatever its records hold, its course over them is this
abbrev pub Does : {R : Type 0} → (R → Content → Type 0) → Parts R → (View → Result Outcome Fault → Type 0) → Result (Vec Letter Global) Fault → Parts R → Type 0
Does may_find old IsCourse result new =
    (c : Content) → Holds (may_find old.records) c
    → (t : Standing) × CallEnds (IsCourse (view_over old c)) (view_over old c) (answer result) t × Stands may_find new t

-- the node after a store's fault, and what it answers
abbrev pub AfterStoreFault : {R : Type 0} → Parts R → RecordsFault → Fault → Parts R → Type 0
AfterStoreFault old Refused fault new = (fault ≡ Fault.StoreRefused) × (new ≡ old)
AfterStoreFault old OutOfMemory fault new = (fault ≡ Fault.OutOfMemory) × (new ≡ old)
AfterStoreFault old Broken fault new = (fault ≡ Fault.Down) × (new ≡ record old { is_down = true })

-- the node after a fault of its own or its store's
abbrev pub Stops : {R : Type 0} → Parts R → Fault → Parts R → Type 0
Stops old Fault.Down new = new ≡ record old { is_down = true }
Stops old other new = new ≡ old

-- a node that prepares and leads nothing, and has heard of nothing
abbrev pub IsUntouched : {R : Type 0} → Parts R → Type 0
IsUntouched n = (n.proposer.role ≡ Idle) × (n.proposer.hint ≡ 0) × (n.knowledge ≡ record { tally = no_tally; cursor = 0 })
