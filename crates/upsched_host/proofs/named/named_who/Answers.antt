use Rattle.std.proofs.Common.{◌≡◌, ◌∙◌, false, inr, rules, sym, true}
use Rattle.hosts.specs.New.{ArePlaces}
use Rattle.upsched_host.proofs.AsNamed.{no_places}
use Rattle.upsched_host.proofs.named.named_who.Goals as goal

pub returns-then-not-are_places : goal.returns-then-not-are_places
returns-then-not-are_places c =
    let bad : ¬ ArePlaces c.in-Some-places_in.places = λ are.
    let wrong : false ≡ true = sym c.if-not-are_places.true ∙ c.are_places.ensures.1 are in
    cc in
    no_places c.args.words.now c.in-Some.id c.in-Some.members c.in-Some-places_in.places (search rules) c.in-Some-places_in.ensures (search rules) (inr bad)
