use Rattle.std.proofs.Common.{◌≡◌, ◌∷◌, rules, arith, ap, sym, subst, ◌∙◌}
use Rattle.std.proofs.lemmas.Grind.{common_steps}
use Rattle.proposer.specs.Bounds.{AreInLog}
use Rattle.proposer.specs.Joining.{place_after}
use Rattle.proposer.proofs.Joins.{place_after_step, rest_in_log}
use Rattle.proposer.proofs.promises.Joined.place_after.Goals as goal

pub loop-place-preserved : goal.loop-place-preserved
loop-place-preserved c =
    let iter : c.loop-place.place-iterator ≡ (c.in-Some.place.now, c.in-Some._cast.now) ∷ c.next.new.self = first_of (search rules, grind (arith, common_steps)) in (
      ap (λ n. place_after n c.next.new.self) c.max-next.ensures
          ∙ place_after_step c.loop-place.next c.in-Some.place.now c.in-Some._cast.now c.next.new.self (place_after c.args.first c.args.self.now) (ap (place_after c.loop-place.next) (sym iter) ∙ c.loop-place.invariant.0),
      rest_in_log (c.in-Some.place.now, c.in-Some._cast.now) c.next.new.self (subst AreInLog iter c.loop-place.invariant.1),
    )
