use Rattle.std.proofs.Common.{◌≡◌, ◌+◌, ◌<◌, ◌≤◌, true, if◌then◌else◌, length, Some, sym, ap, subst, ◌∙◌, rules, arith}
use Rattle.std.proofs.lemmas.Grind.{common_steps}
use Rattle.ballots.specs.Limits.{most_places}
use Rattle.ballots.specs.Rows.{at, put}
use Rattle.command_log.specs.Values.{gapless}
use Rattle.command_log.specs.View.{AreRows, LogView}
use Rattle.node.specs.Learned.{IsPart}
use Rattle.node.proofs.Prefixes.{part_put, one_more, beyond}
use Rattle.node.proofs.knowledge.apply.Goals as goal

pub loop-applied-preserved : goal.loop-applied-preserved
loop-applied-preserved c =
    let old = c.loop-applied.log in
    let n = c.loop-applied.applied in
    let v = c.as_slice.result.now in
    let here : at c.args.learned.now.entries (n + 1) ≡ Some v = first_of (search rules, grind (arith, common_steps)) in
    let few : n ≤ length (gapless old.learned) = omega (arith, c.loop-applied.invariant.0, c.loop-applied.invariant.1.gapless) in
    let within : n + 1 ≤ most_places = omega (arith, c.loop-applied-test.true) in
    let more = one_more old.learned n v c.loop-applied.invariant.1.rows few within c.in-Ok.ensures.ok.0.1 in
    let learned : c.advance.new.self.learned ≡ put old.learned (n + 1) v = c.advance.ensures.learned ∙ ap (λ (l : LogView). l.learned) c.in-Ok.ensures.ok.1 in
    let before : c.learn.new.self.learned ≡ put old.learned (n + 1) v = ap (λ (l : LogView). l.learned) c.in-Ok.ensures.ok.1 in
    let was : c.learn.new.self.applied ≡ n = ap (λ (l : LogView). l.applied) c.in-Ok.ensures.ok.1 ∙ c.loop-applied.invariant.0 in
    let longer : n < length (gapless c.learn.new.self.learned) = subst (λ r. n < length (gapless r)) (sym before) more.1 in
    let yes : c.in_ok-advance.field-0 ≡ true = c.in_ok-advance.ensures.more.1 (subst (λ k. k < length (gapless c.learn.new.self.learned)) (sym was) longer) in
    let applied : c.advance.new.self.applied ≡ n + 1 = c.in_ok-advance.ensures.applied ∙ (λ i. was i + (if yes i then 1 else 0)) in (
      applied,
      record {
        rows = subst (AreRows 1) (sym learned) more.0;
        gapless = subst (λ r. c.advance.new.self.applied ≤ length (gapless r)) (sym learned) (omega (arith, applied, more.1));
      },
      subst (λ r. IsPart r c.args.learned.now.entries) (sym learned) (part_put old.learned c.args.learned.now.entries (n + 1) v c.loop-applied.invariant.2 here),
    )

pub returns-in_err-advance-clause-part : goal.returns-in_err-advance-clause-part
returns-in_err-advance-clause-part c =
    let old = c.loop-applied.log in
    let n = c.loop-applied.applied in
    let v = c.as_slice.result.now in
    let here : at c.args.learned.now.entries (n + 1) ≡ Some v = first_of (search rules, grind (arith, common_steps)) in
    let learned : c.advance.new.self.learned ≡ put old.learned (n + 1) v = c.advance.ensures.learned ∙ ap (λ (l : LogView). l.learned) c.in-Ok.ensures.ok.1 in
    subst (λ r. IsPart r c.args.learned.now.entries) (sym learned) (part_put old.learned c.args.learned.now.entries (n + 1) v c.loop-applied.invariant.2 here)

pub returns-clause-all : goal.returns-clause-all
returns-clause-all c = beyond 1 (c.loop-applied.log.applied + 1) c.args.learned.now.entries c.requires.rows (omega (arith, c.loop-applied.invariant.0, c.loop-applied-test.false))
