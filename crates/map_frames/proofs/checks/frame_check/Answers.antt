use Rattle.std.proofs.Common.{◌≡◌, ◌-◌, ◌<◌, ◌^◌, true, replicate, refl, lit<, arith}
use Rattle.map_frames.specs.Polynomials.{below, bits}
use Rattle.map_frames.specs.Checks.{frame_generator}
use Rattle.map_frames.proofs.Bits.{check_fed}
use Rattle.map_frames.proofs.checks.frame_check.Goals as goal

generator_is : frame_generator ≡ bits 32 0xEDB88320
unfolding frame_generator below bits
generator_is = refl

ones_are : replicate 32 true ≡ bits 32 (2 ^ 32 - 1)
unfolding bits
ones_are = refl

pub returns : goal.returns
returns c =
    let small : c.fed.result < 2 ^ 32 = c.fed.ensures.fits 32 (lit< tt) (lit< tt) in
    let sum = check_fed 31 0xEDB88320 c.fed.result frame_generator c.args.bytes.now generator_is ones_are small (c.fed.ensures.bits 32 (lit< tt) (lit< tt)) in
    omega (arith, sum)
