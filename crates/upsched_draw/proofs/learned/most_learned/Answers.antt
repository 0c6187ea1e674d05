use Rattle.std.proofs.Common.{arith}
use Rattle.upsched_draw.proofs.Seen.{all_seats, next_seat}
use Rattle.upsched_draw.proofs.learned.most_learned.Goals as goal

pub loop-seat-preserved : goal.loop-seat-preserved
loop-seat-preserved g c = λ nodes each.
    next_seat c.args.seats.now nodes c.loop-seat.seat-index c.seat-item.result c.loop-seat.most.items c.in_ok-commands_of.field-0.items c.longer-most.result.items
    each c.loop-seat-test.true c.seat-item.is c.in_ok-commands_of.ensures (c.loop-seat.invariant nodes each) c.longer-most.ensures.second c.longer-most.ensures.first

pub returns : goal.returns
returns g c = λ nodes each.
    all_seats c.args.seats.now nodes c.loop-seat.seat-index c.loop-seat.most.items each (omega (arith, c.loop-seat-test.false)) (c.loop-seat.invariant nodes each)
