-- A node that has started stands in its seat as it stood, and began over the content that its records hold.
use Rattle.std.proofs.Common.{◌≡◌, Bool, ℕ, IsTrue, true, refl, subst, subst₂, sym, ap, ◌∙◌}
use Rattle.acceptor.specs.Content.{Content}
use Rattle.acceptor.specs.Found.{Findable, Holds}
use Rattle.batched_node.specs.Serves.{ServesBatchedAs}
use Rattle.kept_node.specs.declared.store.WriteStore.{Ghosts as Stores}
use Rattle.node.specs.Calls.{Who}
use Rattle.node.specs.View.{Standing, View, started}
use Rattle.node.specs.View.Standing.{Running}
use Rattle.node.specs.declared.node.Node.{Ghosts}
use Rattle.node_service.specs.declared.batches.BatchedEnd.{BatchedEnd}
use Rattle.node_service.specs.declared.lines.Lines.{Ghosts as Inputs}
use Rattle.node_service.specs.declared.outbox.Outbox.{Ghosts as Outputs}
use Rattle.seats.specs.Occupant.{Stands, is_up, node_of, who_of}
use Rattle.seats.specs.Seat.{Shown}
use Rattle.seats.specs.declared.seat.Seat.{Seat}
use Rattle.stored_nodes.specs.Starts.{BeginsOver, HasStartedBeside}

pub stands_in : {N : Type 0} {g : Ghosts N} (seat : Seat N g) (node : N) (view : View) → node_of seat ≡ node → is_up seat ≡ true → g.stands node (Running view) → Stands seat (Running view)
stands_in {g = g} seat node view same up stands =
    subst (λ b. Shown b (g.stands (node_of seat)) (Running view)) (sym up) (subst (λ n. g.stands n (Running view)) (sym same) stands, view, refl)

pub began_over : {N : Type 0} (who : N → Who) (stands : N → Standing → Type 0) (honest : Bool) (held : Findable) (found : Bool → Content → Type 0) (count number : ℕ) (is_new : Bool) (node : N)
    (it : HasStartedBeside who stands honest held found count number is_new node) → IsTrue honest → BeginsOver found is_new it.started_over.0 × Holds held it.started_over.0
began_over who stands honest held found count number is_new node it sure =
    let had = it.over sure in
    let same : it.started_over.0 ≡ had.0 = it.same sure had.0 had.2 (started it.started_over.0) it.started_over.1 in
    subst (λ c. BeginsOver found is_new c × Holds held c) (sym same) (had.1, had.2)

-- the node in a seat is the one that was put there
pub served_by : {N W I O : Type 0} {g : Ghosts N} (h : Stores W) (input : Inputs I) (output : Outputs O) (seat : Seat N g) (node : N) (members me : ℕ) (s : Standing) (end : BatchedEnd) (i : I) (o : O) (i' : I) (o' : O) (store : W)
    → node_of seat ≡ node → (g.who node).members ≡ members → (g.who node).id ≡ me
    → ServesBatchedAs h input output (who_of seat).members (who_of seat).id s end i o i' o' store → ServesBatchedAs h input output members me s end i o i' o' store
served_by {g = g} h input output seat node members me s end i o i' o' store same many number it =
    subst₂ (λ m n. ServesBatchedAs h input output m n s end i o i' o' store) (ap (λ n. (g.who n).members) same ∙ many) (ap (λ n. (g.who n).id) same ∙ number) it
