use Rattle.std.proofs.Common.{Option, subst}
use Rattle.modem.specs.declared.action.Action.{Action}
use Rattle.modem.specs.Idle.{SendsAt}
use Rattle.std.proofs.lemmas.Option.{IfSome_then}
use Rattle.map_body.proofs.Callers.{where_none}
use Rattle.modem.proofs.Quiet.{acts_sent, ended}
use Rattle.modem.proofs.modem.Modem.action_at.Goals as goal

pub returns-in-Some-clause-some : goal.returns-in-Some-clause-some
returns-in-Some-clause-some c =
    let v = c.args.self.now in
    let (counted, counts, sends) = c.sending_at.ensures in
    acts_sent v c.args.channel c.args.«at» counted c.in-Some.action counts (subst (λ (r : Option Action). SendsAt v c.args.channel.id c.args.«at» counted r) c.in-Some.is sends)

pub returns-in-None-clause-some : goal.returns-in-None-clause-some
returns-in-None-clause-some c =
    let v = c.args.self.now in
    let (counted, counts, sends) = c.sending_at.ensures in
    let nothing = subst (λ (r : Option Action). SendsAt v c.args.channel.id c.args.«at» counted r) c.in-None.is sends in
    IfSome_then c.lease_end_at.result c.lease_end_at.ensures.some (λ a (sid, is, has, over). rw is (has, ended v c.args.channel c.args.«at» counted sid counts nothing over))

pub returns-in-None-clause-none : goal.returns-in-None-clause-none
returns-in-None-clause-none c =
    let v = c.args.self.now in
    let (counted, counts, sends) = c.sending_at.ensures in
    let nothing = subst (λ (r : Option Action). SendsAt v c.args.channel.id c.args.«at» counted r) c.in-None.is sends in
    where_none c.lease_end_at.result (λ stay. record { counted = counted; counts = counts; nothing = nothing; stay = stay }) c.lease_end_at.ensures.none
