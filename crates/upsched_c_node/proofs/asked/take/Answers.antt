use Rattle.node.specs.Calls.Cause.{Receive}
use Rattle.upsched_c_node.specs.Calls.{sent}
use Rattle.upsched_c_node.proofs.Sending.{letter_tells, sends_ok}
use Rattle.upsched_c_node.proofs.asked.take.Goals as goal

pub returns-in-Ok : goal.returns-in-Ok
returns-in-Ok c =
    sends_ok (Receive c.args.letter.now) c.args.held.now c.keep.new.held c.receive.new.self c.in-Ok.letters c.write_after-made.result c.keep.new.write (sent c.args.write.now c.args.count.now) c.keep.new.count c.keep.result
    c.in-Ok.ensures
    (letter_tells c.args.held.now.node c.receive.new.self _ _ _ c.deref.result.now c.in-Ok.letters.items c.write_after-made.result c.args.letter.now c.place_open-place.result
    c.node.ensures.values c.place_open-place.ensures c.node-in-Ok.ensures.id c.node-in-Ok.ensures.values c.node-in-Ok.ensures.member c.deref.ensures.value c.write_after-made.ensures)
    c.keep.ensures.status c.keep.ensures.write c.keep.ensures.count c.keep.ensures.held
