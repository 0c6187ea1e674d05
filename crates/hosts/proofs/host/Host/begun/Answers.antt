use Rattle.std.proofs.Common.{◌∙◌, ap, false, rules}
use Rattle.hosts.specs.Starting.{IsWindow}
use Rattle.hosts.specs.States.{no_states}
use Rattle.hosts.proofs.Starts.{first_behind}
use Rattle.hosts.proofs.host.Host.begun.Goals as goal

pub returns-in-Ok-clause-opens : goal.returns-in-Ok-clause-opens
returns-in-Ok-clause-opens g c =
    let window = c.in-Ok.window in
    let host = c.at_first.result in
    let found : IsWindow g.O.Opens c.args.opens 1 false window = search rules in
    first_behind c.schedulers_follow_values.ensures.on c.epochs_join.ensures.on c.args.opens host c.args.places window c.at_first.ensures.at found c.at_first.ensures.places
    (c.at_first.ensures.states ∙ ap (λ m. no_states m.0 m.1) c.open_window.ensures.keeps.member)
