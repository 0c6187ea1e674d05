use Rattle.stored_nodes.proofs.Beside.{beside_more}
use Rattle.stored_nodes.proofs.starting.started_made.Goals as goal

pub returns-in-Ok : goal.returns-in-Ok
returns-in-Ok c = beside_more _ _ _ _ _ _ _ _ _ c.started_over_files.result (λ content here. (c.in-Ok.files, here)) c.started_over_files.ensures
