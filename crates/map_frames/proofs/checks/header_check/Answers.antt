use Rattle.std.proofs.Common.{◌≡◌, ◌-◌, ◌<◌, ◌^◌, true, replicate, refl, lit<, arith}
use Rattle.map_frames.specs.Polynomials.{below, bits}
use Rattle.map_frames.specs.Checks.{header_generator}
use Rattle.map_frames.proofs.Bits.{check_fed}
use Rattle.map_frames.proofs.checks.header_check.Goals as goal

generator_is : header_generator ≡ bits 16 0x8408
unfolding header_generator below bits
generator_is = refl

ones_are : replicate 16 true ≡ bits 16 (2 ^ 16 - 1)
unfolding bits
ones_are = refl

pub overflow_cast-result : goal.overflow_cast-result
overflow_cast-result c = let small : c.fed.result < 2 ^ 16 = c.fed.ensures.fits 16 (lit< tt) (lit< tt) in omega arith

pub overflow_sub-result : goal.overflow_sub-result
overflow_sub-result c = let small : c.fed.result < 2 ^ 16 = c.fed.ensures.fits 16 (lit< tt) (lit< tt) in omega arith

pub returns : goal.returns
returns c =
    let small : c.fed.result < 2 ^ 16 = c.fed.ensures.fits 16 (lit< tt) (lit< tt) in
    let sum = check_fed 15 0x8408 c.fed.result header_generator c.args.bytes.now generator_is ones_are small (c.fed.ensures.bits 16 (lit< tt) (lit< tt)) in
    omega (arith, sum)
