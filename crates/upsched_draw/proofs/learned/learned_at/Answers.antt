use Rattle.std.proofs.Common.{rules, ◌≡◌, true, false, refl, subst, sym}
use Rattle.node.specs.View.Standing.{Running}
use Rattle.seats.specs.Occupant.{is_up, node_of}
use Rattle.upsched_draw.proofs.Seen.{nothing_seen, value_seen}
use Rattle.upsched_draw.proofs.learned.learned_at.Goals as goal

pub returns-then-not-is_up : goal.returns-then-not-is_up
returns-then-not-is_up g c = λ s stands.
    let down : is_up c.args.seat.now ≡ false = search rules in
    nothing_seen (g.N.Node.stands (node_of c.args.seat.now)) (is_up c.args.seat.now) s c.args.place _ down stands refl

pub returns : goal.returns
returns g c = λ s stands.
    let up : is_up c.args.seat.now ≡ true = search rules in
    value_seen (g.N.Node.stands (node_of c.args.seat.now)) (is_up c.args.seat.now) s (g.N.Node.values c.node.result.now) c.args.place _ up stands
    (λ view there. c.learned.ensures.values view (subst (λ (n : g.row.N.Denot). g.N.Node.stands n (Running view)) (sym c.node.ensures) there))
    c.learned.ensures.value
