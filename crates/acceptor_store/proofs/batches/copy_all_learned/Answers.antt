use Rattle.std.proofs.Common.{List, Some, ◌+◌, ℕ, sym, ap, ◌∙◌, arith}
use Rattle.std.proofs.lemmas.Option.{slice_get-get_or}
use Rattle.acceptor_store.proofs.Copying.{next_learned}
use Rattle.acceptor_store.proofs.batches.copy_all_learned.Goals as goal

pub loop-row-init : goal.loop-row-init
loop-row-init c sound none = ap (λ (v : List (ℕ × List ℕ)). record c.args.records.now { learned = v }) none

pub loop-row-preserved : goal.loop-row-preserved
loop-row-preserved c sound none =
    next_learned c.args.records.now c.loop-row.records c.copy_learned.new.records c.args.rows.now c.loop-row.row-index (c.loop-row.row-index + 1) c.row-item.result (omega arith)
    (slice_get-get_or c.args.rows.now c.loop-row.row-index _ c.loop-row-test.true ∙ ap Some (sym c.row-item.is)) sound (c.loop-row.invariant sound none) c.in_ok-copy_learned.ensures
