use Rattle.std.proofs.Common.{◌≡◌, ℕ, ◌-◌, ◌/◌, Ok, arith, drop, length, subst, take}
use Rattle.hex.specs.Hex.{decode_of}
use Rattle.node_lines.proofs.InPlace.{finishes, one_more, stops}
use Rattle.node_lines.proofs.digits.decode_in_place.Goals as goal

pub returns-in_err-text-clause-none : goal.returns-in_err-text-clause-none
returns-in_err-text-clause-none c =
    rw c.from_residual.ensures (stops c.args.text.now c.loop-i.text c.args.start c.loop-i.i c.loop-i.invariant (omega arith) (omega arith) c.in_err-text.ensures)

pub loop-i-preserved : goal.loop-i-preserved
loop-i-preserved c = one_more c.args.text.now c.loop-i.text c.args.start c.loop-i.i c.in_ok-text.field-0 c.loop-i.invariant (omega arith) c.in_ok-text.ensures

pub returns-clause-some : goal.returns-clause-some
returns-clause-some c =
    let before = c.args.text.now in
    let all : c.loop-i.i ≡ (length before - c.args.start) / 2 = omega arith in
    let P : ℕ → Type 0 = λ n. decode_of (drop c.args.start before) ≡ Ok (take n c.loop-i.text) in
    subst P all (finishes before c.loop-i.text c.args.start c.loop-i.i c.loop-i.invariant c.loop-i-test.false (omega arith))
