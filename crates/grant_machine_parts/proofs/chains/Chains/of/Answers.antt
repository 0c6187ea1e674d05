use Rattle.std.proofs.Common.{◌≡◌, ◌-◌, ◌<◌, ◌∷◌, [], suc, set, length, refl, sym, ap, subst, arith, add-one}
use Rattle.grant_machine_parts.specs.Chains.{AreFrom}
use Rattle.grant_machine_parts.proofs.Chained.{chained_none, chained_past, chained_put}
use Rattle.grant_machine_parts.proofs.Splits.{item_at}
use Rattle.grant_machine_parts.proofs.chains.Chains.of.Goals as goal

pub loop-i-init : goal.loop-i-init
loop-i-init c = record {
  most = omega arith;
  chained = chained_none c.args.ranked.now c.if-i-gt-MOST_CHAINED.false (0 ∷ 0 ∷ 0 ∷ 0 ∷ 0 ∷ 0 ∷ 0 ∷ 0 ∷ []) _ refl refl (refl, (refl, (refl, (refl, (refl, (refl, (refl, (refl, tt))))))));
}

pub loop-i-preserved-then-priority-lt-PRIORITIES : goal.loop-i-preserved-then-priority-lt-PRIORITIES
loop-i-preserved-then-priority-lt-PRIORITIES c =
    let next : c.loop-i.i ≡ suc (c.loop-i.i - 1) = omega (arith, c.loop-i-test.true) in
    let are = subst (AreFrom c.loop-i.firsts c.loop-i.nexts c.args.ranked.now) next c.loop-i.invariant.chained in
    let within : c.loop-i.i - 1 < length c.args.ranked.now = omega (arith, c.loop-i-test.true, c.loop-i.invariant.most) in
    let r = item_at c.args.ranked.now (c.loop-i.i - 1) within in
    record {
      most = omega (arith, c.loop-i.invariant.most);
      chained = chained_put c.loop-i.firsts c.loop-i.nexts _ _ c.args.ranked.now (c.loop-i.i - 1) c.priority_at-priority.result r.0 r.1 (sym (c.priority_at-priority.ensures r.0 r.1)) c.if-priority-lt-PRIORITIES.true
          refl (ap (λ n. set c.loop-i.firsts c.priority_at-priority.result n) (add-one (c.loop-i.i - 1))) are;
    }

pub loop-i-preserved : goal.loop-i-preserved
loop-i-preserved c =
    let next : c.loop-i.i ≡ suc (c.loop-i.i - 1) = omega (arith, c.loop-i-test.true) in
    let are = subst (AreFrom c.loop-i.firsts c.loop-i.nexts c.args.ranked.now) next c.loop-i.invariant.chained in
    let within : c.loop-i.i - 1 < length c.args.ranked.now = omega (arith, c.loop-i-test.true, c.loop-i.invariant.most) in
    let r = item_at c.args.ranked.now (c.loop-i.i - 1) within in
    let told = c.priority_at-priority.ensures r.0 r.1 in
    record {
      most = omega (arith, c.loop-i.invariant.most);
      chained = chained_past c.loop-i.firsts c.loop-i.nexts c.args.ranked.now (c.loop-i.i - 1) r.0 r.1 (omega (arith, told, c.if-priority-lt-PRIORITIES.false)) are;
    }
