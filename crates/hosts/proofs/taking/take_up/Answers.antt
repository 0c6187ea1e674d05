use Rattle.std.proofs.Common.{◌+◌, Some, refl, rules}
use Rattle.hosts.proofs.Steps.{has_known, takes_on}
use Rattle.hosts.proofs.taking.take_up.Goals as goal

pub loop-place-preserved : goal.loop-place-preserved
loop-place-preserved g c =
    let seat = c.args.seat.now in (
      takes_on seat c.args.places c.args.taken.now c.args.scheduler.now _ c.loop-place.place _ c.apply.new.self c.in-Some.value.now
          c.loop-place.invariant.0 c.loop-place.invariant.1
          (search rules) (has_known seat (c.loop-place.place + 1) (Some c.in-Some.value.now) (search rules) (search rules) (search rules)) (search rules),
      refl,
    )
