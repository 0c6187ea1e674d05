use Rattle.std.proofs.Common.{rules}
use Rattle.std.proofs.lemmas.Result.{IfOk-weaker}
use Rattle.hosts.specs.Starting.{CanStart}
use Rattle.hosts.proofs.Starts.{over_kept, over_members, started_behind}
use Rattle.hosts.proofs.host.Host.resumed.Goals as goal

pub returns-clause-members : goal.returns-clause-members
returns-clause-members g c = IfOk-weaker c.started.result _ _ (λ host over. over_members c.args.opens c.args.start host over) c.started.ensures.over

pub returns-clause-kept : goal.returns-clause-kept
returns-clause-kept g c = IfOk-weaker c.started.result _ _ (λ host over. over_kept c.args.opens c.args.start host over) c.started.ensures.over

pub returns-clause-stands : goal.returns-clause-stands
returns-clause-stands g c =
    let can : CanStart (g.O.Opens.member c.args.opens).1 c.args.places c.args.start.head = search rules in
    IfOk-weaker c.started.result _ _
    (λ host over honest passed full behind. started_behind c.schedulers_follow_values.ensures.on c.epochs_join.ensures.on c.args.opens c.args.start host over c.args.places can.of.places honest passed full behind)
    c.started.ensures.over
