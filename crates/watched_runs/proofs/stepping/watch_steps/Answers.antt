use Rattle.std.proofs.Common.{ℕ, List, length, map, refl}
use Rattle.modem.specs.State.{State}
use Rattle.network_script.specs.World.{opening}
use Rattle.watched_runs.proofs.Followed.{step_run}
use Rattle.watched_runs.proofs.stepping.watch_steps.Goals as goal

pub returns : goal.returns
returns g c = λ honest.
    let members : ℕ = length c.args.nodes.items in
    let ids : List ℕ = map {A = State} {B = ℕ} (λ modem. modem.id) c.args.modems.items in
    let went = c.in_ok-events.ensures.run honest (opening members ids) (c.in_ok-world.ensures.opens (c.in_ok-events.ensures.honesty honest)) refl in
    let run = step_run members ids c.args.entries.items c.in_ok-events.events.items c.in_ok-events.marks went.0 went.1 in
    (went.0, went.2, run.0, run.1)
