use Rattle.stored_nodes.proofs.Started.{new_started, old_started}
use Rattle.stored_nodes.proofs.owned.started_over.Goals as goal

pub returns-then-is_new : goal.returns-then-is_new
returns-then-is_new g c = new_started _ _ _ _ _ _ _ c.new_over.result c.if-is_new.true c.new_over.ensures.fresh c.new_over.ensures.begins

pub returns-else-is_new : goal.returns-else-is_new
returns-else-is_new g c =
    let had = c.resumed_over.ensures in
    old_started _ _ _ _ _ _ _ c.resumed_over.result c.if-is_new.false had.id had.members had.up had.resumed
