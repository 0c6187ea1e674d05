use Rattle.std.proofs.Common.{◌≡◌, ◌+◌, ◌-◌, ◌++◌, [], ◌∷◌, ap, sym, ◌∙◌, arith}
use Rattle.std.specs.List.{range_with_len}
use Rattle.script_steps.proofs.Listed.{range_more}
use Rattle.script_steps.proofs.waiting.numbers.Goals as goal

pub loop-i-preserved : goal.loop-i-preserved
loop-i-preserved c =
    let from = c.loop-i.invariant.from in
    let more : c.loop-i.i - c.args.from + 1 ≡ c.loop-i.i + 1 - c.args.from = omega (arith, from) in
    let last : c.loop-i.i ≡ c.args.from + (c.loop-i.i - c.args.from) = omega (arith, from) in
    record {
      from = omega (arith, from);
      within = omega (arith, c.loop-i-test.true);
      read = c.in_ok-push.ensures.items ∙ ap (λ ks. ks ++ c.loop-i.i ∷ []) c.loop-i.invariant.read
          ∙ ap (λ k. range_with_len c.args.from (c.loop-i.i - c.args.from) ++ k ∷ []) last
          ∙ sym (range_more c.args.from (c.loop-i.i - c.args.from)) ∙ ap (range_with_len c.args.from) more;
    }
