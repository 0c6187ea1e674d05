use Rattle.std.proofs.Common.{rules, ◌≡◌, ℕ, List, Option, true, false, refl, subst, sym, ap, is_some}
use Rattle.node.specs.View.Standing.{Running}
use Rattle.seats.specs.Occupant.{is_up, node_of}
use Rattle.watched_runs.proofs.Seeing.{learned_seen, nothing_seen}
use Rattle.watched_runs.proofs.sight.seat_has_learned.Goals as goal

pub returns-then-not-is_up : goal.returns-then-not-is_up
returns-then-not-is_up g c = λ s stands.
    let down : is_up c.args.seat.now ≡ false = search rules in
    nothing_seen (g.N.Node.stands (node_of c.args.seat.now)) (is_up c.args.seat.now) s c.args.place false down stands refl

pub returns-in-Some : goal.returns-in-Some
returns-in-Some g c = λ s stands.
    let up : is_up c.args.seat.now ≡ true = search rules in
    learned_seen (g.N.Node.stands (node_of c.args.seat.now)) (is_up c.args.seat.now) s (g.N.Node.values c.node.result.now) c.args.place true up stands
    (λ view there. c.learned.ensures.values view (subst (λ (n : g.row.N.Denot). g.N.Node.stands n (Running view)) (sym c.node.ensures) there))
    (ap (λ (o : Option (List ℕ)). is_some o) (rw c.in-Some.is at c.learned.ensures.value))

pub returns-in-None : goal.returns-in-None
returns-in-None g c = λ s stands.
    let up : is_up c.args.seat.now ≡ true = search rules in
    learned_seen (g.N.Node.stands (node_of c.args.seat.now)) (is_up c.args.seat.now) s (g.N.Node.values c.node.result.now) c.args.place false up stands
    (λ view there. c.learned.ensures.values view (subst (λ (n : g.row.N.Denot). g.N.Node.stands n (Running view)) (sym c.node.ensures) there))
    (ap (λ (o : Option (List ℕ)). is_some o) (rw c.in-None.is at c.learned.ensures.value))
