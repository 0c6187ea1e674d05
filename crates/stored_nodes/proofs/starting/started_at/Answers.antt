use Rattle.std.proofs.Common.{false}
use Rattle.stored_nodes.proofs.Beside.{beside_more}
use Rattle.stored_nodes.proofs.starting.started_at.Goals as goal

pub returns-then-is_new : goal.returns-then-is_new
returns-then-is_new c = rw c.if-is_new.true c.started_new.ensures

pub returns-in_ok-files : goal.returns-in_ok-files
returns-in_ok-files c =
    rw c.if-is_new.false (beside_more _ _ _ _ _ _ _ _ false c.started_over_files.result (λ content here. (c.in_ok-files.files, here)) c.started_over_files.ensures)
