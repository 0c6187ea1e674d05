use Rattle.std.proofs.Common.{false, rules, subst}
use Rattle.std.proofs.lemmas.Result.{IfOk-weaker}
use Rattle.hosts.specs.Starting.{IsNoneToStart, StandsBehind, StartsBy}
use Rattle.hosts.proofs.Starts.{by_behind, nothing_opened, started_behind, stays_behind, stored_honest}
use Rattle.hosts.proofs.host.Host.joined.Goals as goal

pub returns-in-Ok-clause-stands : goal.returns-in-Ok-clause-stands
returns-in-Ok-clause-stands g c =
    let opens = g.O.Opens in
    let start = c.in-Ok.start in
    let places = c.args.places in
    let by : StartsBy (opens.member c.args.opens).1 places c.args.state.now start = search rules in
    IfOk-weaker c.started_anew.result _ _
    (λ host found honest me passed full is.
    let behind = by_behind c.one_spelling_of_states.ensures.one (opens.member c.args.opens).1 places c.args.state.now start by me passed is in
    stays_behind found.0 host found.2.stays (opens.begins c.args.opens) places false passed
    (subst (λ b. StandsBehind (opens.begins c.args.opens) places b passed found.0) by.alone
    (started_behind c.schedulers_follow_values.ensures.on c.epochs_join.ensures.on c.args.opens start found.0 found.1 places by.can.of.places (stored_honest found.0 host found.2 honest) passed full behind)))
    c.started_anew.ensures.over

pub returns-in-Err-clause-starts : goal.returns-in-Err-clause-starts
returns-in-Err-clause-starts g c =
    let none : IsNoneToStart (g.O.Opens.member c.args.opens).1 c.args.places c.args.state.now c.in-Err.fault = search rules in
    nothing_opened g.O.Opens c.args.opens c.args.places c.args.state.now c.in-Err.fault none
