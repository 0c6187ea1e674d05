use Rattle.std.proofs.Common.{ℕ, List, length, map, ◌∙◌}
use Rattle.modem.specs.State.{State}
use Rattle.ballots.specs.Members.{member_count}
use Rattle.upsched_draw.proofs.Drawn.{run_learned}
use Rattle.upsched_draw.proofs.maps.learned_after.Goals as goal

pub returns : goal.returns
returns g c = λ honest.
    let nodes : ℕ = length c.args.nodes.items in
    let given : List ℕ = map {A = State} {B = ℕ} (λ modem. modem.id) c.in_ok-fresh.fresh.items in
    let left = c.in_ok-_events.ensures honest in
    rw c.as_slice-ids.ensures.value at
    (run_learned (member_count c.args.script.members) nodes c.as_slice-ids.result.now given c.args.script.steps.items _ _ left.0 c.in_ok-commands.commands.items c.transmissions.result.now
    c.in_ok-sent.sent.items left.2 left.3 c.requires.members c.in_ok-fresh.ensures.ids (c.in_ok-commands.ensures left.0.nodes (c.seats.ensures.written left.0 left.1))
    (c.transmissions.ensures.written left.0 left.1) c.in_ok-sent.ensures)
