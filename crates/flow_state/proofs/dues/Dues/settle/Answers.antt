use Rattle.std.proofs.Common.{ℕ, ◌+◌, ◌*◌, ◌<◌, ◌≤◌, List, get_or, length, sym, subst}
use Rattle.flow_state.specs.declared.dues.Dues.{Dues}
use Rattle.flow_state.specs.StoredDues.{IsDueFrom}
use Rattle.flow_state.proofs.DueBounds.{settled}
use Rattle.flow_state.proofs.dues.Dues.settle.Goals as goal
use Rattle.flow_state.proofs.dues.Dues.settle.Goals.{then-index-end, else-index-end}

pub loop-block-preserved : goal.loop-block-preserved
loop-block-preserved c = elim c.if-index-end.branch [
  | then-index-end w ↦ λ sid due old.
      let is = c.loop-block.invariant sid due old in
      let none : (place : ℕ) → 64 * c.loop-block.block ≤ place → place < 64 * c.loop-block.block + 64 → place < length c.loop-block.self.times.items → w.least_in.result ≤ get_or c.loop-block.self.times.items place 0 =
      subst (λ (ns : List ℕ). (place : ℕ) → 64 * c.loop-block.block ≤ place → place < 64 * c.loop-block.block + 64 → place < length ns → w.least_in.result ≤ get_or ns place 0) w.deref.ensures.value w.least_in.ensures in
      subst (λ (ds : Dues). IsDueFrom ds sid due) (sym w.self-is)
      (is.0, settled c.loop-block.self.times.items c.loop-block.self.least.items c.loop-block.block w.least_in.result sid due none is.0 is.1)
  | else-index-end w ↦ λ sid due old. subst (λ (ds : Dues). IsDueFrom ds sid due) (sym w.self-is) (c.loop-block.invariant sid due old)
]
