use Rattle.std.proofs.Common.{refl}
use Rattle.seats.proofs.Fresh.{one_modem}
use Rattle.seats.proofs.opening.new_modems.Goals as goal

pub loop-id-preserved : goal.loop-id-preserved
loop-id-preserved c =
    rw c.in_ok-push.ensures.items (one_modem c.loop-id.modems.items c.args.ids.now c.loop-id.id-index _ 0 _ c.loop-id-test.true c.loop-id.invariant refl c.new.ensures.value)
