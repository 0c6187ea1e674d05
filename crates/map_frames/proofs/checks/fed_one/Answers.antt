use Rattle.std.proofs.Common.{◌≡◌, Bool, sym, ap, ◌∙◌, ◌/◌, ◌^◌, ◌<◌, arith}
use Rattle.std.proofs.lemmas.Nat.{xor_lt}
use Rattle.map_frames.specs.Polynomials.{sum_of}
use Rattle.map_frames.proofs.Bits.{fed_same, fed_other}
use Rattle.map_frames.proofs.checks.fed_one.Goals as goal

-- what the test says of the bit and of what was left
tested : (a b c d e : Bool) → a ≡ sum_of b c → b ≡ d → a ≡ e → sum_of d c ≡ e
tested a b c d e sum is test = ap (λ (x : Bool). sum_of x c) (sym is) ∙ sym sum ∙ test

pub returns-else-sum_of-clause-bits : goal.returns-else-sum_of-clause-bits
returns-else-sum_of-clause-bits c = λ n small below.
    fed_same n c.args.generator c.args.left c.args.bit below (tested _ _ _ _ _ c.sum_of.ensures c.is_odd.ensures c.if-sum_of.false)

pub returns-then-sum_of-clause-fits : goal.returns-then-sum_of-clause-fits
returns-then-sum_of-clause-fits c = λ n small below.
    let half : c.args.left / 2 < 2 ^ n = omega arith in
    xor_lt n (c.args.left / 2) c.args.generator half small

pub returns-then-sum_of-clause-bits : goal.returns-then-sum_of-clause-bits
returns-then-sum_of-clause-bits c = λ n small below.
    fed_other n c.args.generator c.args.left c.args.bit below (tested _ _ _ _ _ c.sum_of.ensures c.is_odd.ensures c.if-sum_of.true)
