use Rattle.std.proofs.Common.{ap, ◌∙◌}
use Rattle.flow_state.specs.Rows.{flow_of}
use Rattle.grant_machine_parts.specs.declared.waiting.Ranked.{Ranked}
use Rattle.grant_machine.proofs.Settling.{rank_some, rank_none}
use Rattle.grant_machine.proofs.rows.rank.Goals as goal

pub returns-in-Some : goal.returns-in-Some
returns-in-Some c =
    ap {B = Ranked} (λ n. record { priority = n; last = c.in-Some.flow.now.lease.last; request = c.args.request.now }) c.kind_priority.ensures
    ∙ rank_some (flow_of c.args.table.now c.args.request.now.sid) c.in-Some.flow.now c.args.request.now c.in-Some.ensures

pub returns-in-None : goal.returns-in-None
returns-in-None c = rank_none (flow_of c.args.table.now c.args.request.now.sid) c.args.request.now c.in-None.ensures
