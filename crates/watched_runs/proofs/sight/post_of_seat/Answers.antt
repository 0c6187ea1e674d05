use Rattle.std.proofs.Common.{rules, ◌≡◌, true, false, refl, subst, sym, ◌∙◌}
use Rattle.node.specs.View.Standing.{Running}
use Rattle.seats.specs.Occupant.{is_up, node_of}
use Rattle.watched_runs.specs.declared.post.Post.TheVariants.{Down}
use Rattle.watched_runs.proofs.Seeing.{down_seen, post_seen}
use Rattle.watched_runs.proofs.sight.post_of_seat.Goals as goal

pub returns-then-not-is_up : goal.returns-then-not-is_up
returns-then-not-is_up g c = λ s stands.
    let down : is_up c.args.seat.now ≡ false = search rules in
    down_seen (g.N.Node.stands (node_of c.args.seat.now)) (is_up c.args.seat.now) s Down down stands refl

pub returns : goal.returns
returns g c = λ s stands.
    let up : is_up c.args.seat.now ≡ true = search rules in
    post_seen (g.N.Node.stands (node_of c.args.seat.now)) (is_up c.args.seat.now) s c.role.result.now c.post_of.result up stands
    (λ view there. c.role.ensures.standing view (subst (λ (n : g.row.N.Denot). g.N.Node.stands n (Running view)) (sym c.node.ensures) there) ∙ sym c.role.ensures.same)
    c.post_of.ensures
