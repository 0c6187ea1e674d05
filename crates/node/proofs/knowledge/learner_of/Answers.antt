use Rattle.std.proofs.Common.{◌≡◌, [], ◌∷◌, sym, ap, ◌∙◌, subst, rules}
use Rattle.std.proofs.lemmas.List.{nil_from_length}
use Rattle.ballots.specs.Rows.{at}
use Rattle.learner.specs.Tally.{Tally, known}
use Rattle.command_log.specs.View.{AreRows}
use Rattle.node.proofs.Knowing.{known_rows}
use Rattle.node.proofs.Reading.{take_in, whole, none_counted}
use Rattle.node.proofs.knowledge.learner_of.Goals as goal

pub loop-place-preserved : goal.loop-place-preserved
loop-place-preserved c =
    let old = c.loop-place.learner in
    let p = c.in-Some.place in
    let v = c.in-Some.value in
    let rows : c.loop-place.place-iterator.rest.items ≡ (p, v) ∷ c.next.new.self.rest.items = search rules in
    let is : c.known.new.self ≡ known old (at old.learned p) p v = rw (c.number.ensures.same, c.into_bytes.ensures.same) at c.in_ok-known.ensures.ok in
    let fits = rw c.number.ensures.same at c.number.ensures.fits in (
      ap (λ (t : Tally). take_in t c.next.new.self.rest.items) is ∙ ap (take_in old) (sym rows) ∙ c.loop-place.invariant.0,
      subst (λ (t : Tally). AreRows 1 t.learned) (sym is) (known_rows old p v fits.0 fits.1 c.loop-place.invariant.1),
      ap (λ (t : Tally). t.counted) is ∙ none_counted old (at old.learned p) p v c.loop-place.invariant.2,
    )

pub returns-clause-same : goal.returns-clause-same
returns-clause-same c are =
    let old = c.loop-place.learner in
    let rows : c.loop-place.place-iterator.rest.items ≡ [] = nil_from_length c.loop-place.place-iterator.rest.items (search rules) in
    ap (λ (t : Tally). t.learned) (ap (take_in old) (sym rows) ∙ c.loop-place.invariant.0 ∙ whole c.args.rows.items are)
