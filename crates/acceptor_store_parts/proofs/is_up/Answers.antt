use Rattle.std.proofs.Common.{codes, [], sym, ◌∙◌}
use Rattle.sqlite.specs.Held.{state}
use Rattle.acceptor_store_parts.proofs.Tested.{is_open_still, is_shut}
use Rattle.acceptor_store_parts.proofs.is_up.Goals as goal

pub returns-clause-up : goal.returns-clause-up
returns-clause-up g c clean told =
    is_open_still (state g.S.Store c.args.conn.now) (state g.S.Store c.prepare.new.self) (codes "") [] c.in-Err.error (c.in-Err.ensures.err clean []) (sym c.tells_open.ensures ∙ told)

pub returns-clause-shut : goal.returns-clause-shut
returns-clause-shut g c clean told =
    is_shut (state g.S.Store c.args.conn.now) (state g.S.Store c.prepare.new.self) (codes "") [] c.in-Err.error (c.in-Err.ensures.err clean []) (sym c.tells_open.ensures ∙ told)
