use Rattle.std.proofs.Common.{◌≡◌, ℕ, IsTrue, replicate, length, refl, sym, ap, ◌∙◌, subst}
use Rattle.std.proofs.lemmas.List.{length-map}
use Rattle.std.proofs.lemmas.List.Elements.{All-same}
use Rattle.network_script.specs.Seats.{AreStandings}
use Rattle.seats.specs.Occupant.{node_of}
use Rattle.network_script.proofs.Same.{same_world}
use Rattle.network_script.proofs.Places.{numbered_seats, opened_stand, fresh_standing}
use Rattle.network_script.proofs.world.World.new.Goals as goal

pub invariant_of-result : goal.invariant_of-result
invariant_of-result g c = record { numbered = numbered_seats c.args.nodes.items c.in_ok-seats.seats.items c.in_ok-seats.ensures.0 c.requires.nodes.numbered }

pub returns-clause-opens : goal.returns-clause-opens
returns-clause-opens g c = λ honest.
    let seats = c.in_ok-seats.seats.items in
    let fresh = All-same (λ (node : g.row.N.Denot). IsTrue (g.N.Node.honest node) → g.N.Node.stands node fresh_standing) _ _ c.in_ok-seats.ensures.0 c.requires.nodes.fresh in
    let size : length seats ≡ length c.args.nodes.items = sym (length-map seats node_of) ∙ ap length c.in_ok-seats.ensures.0 in
    let stand = subst (λ (n : ℕ). AreStandings seats (replicate n fresh_standing)) size (opened_stand seats fresh c.in_ok-seats.ensures.1 honest) in
    (same_world _ _ refl (sym c.new.ensures.items) (sym c.new-2.ensures.items) refl (sym c.new-3.ensures.sent) refl, stand, c.new-3.ensures.holds)

pub returns-clause-nothing : goal.returns-clause-nothing
returns-clause-nothing g c = (c.new.ensures.items, c.new-2.ensures.items, c.new-3.ensures.sent, c.new-3.ensures.holds)
