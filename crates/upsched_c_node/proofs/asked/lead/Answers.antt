use Rattle.node.specs.Calls.Cause.{Lead}
use Rattle.upsched_c_node.specs.Calls.{sent}
use Rattle.upsched_c_node.proofs.Sending.{lead_tells, sends_ok}
use Rattle.upsched_c_node.proofs.asked.lead.Goals as goal

pub returns-in-Ok : goal.returns-in-Ok
returns-in-Ok c =
    sends_ok Lead c.args.held.now c.keep.new.held c.lead.new.self c.in-Ok.letters c.write_told-made.result c.keep.new.write (sent c.args.write.now c.args.count.now) c.keep.new.count c.keep.result
    c.in-Ok.ensures
    (lead_tells c.args.held.now.node c.lead.new.self c.id.result c.deref.result.now c.in-Ok.letters.items c.write_told-made.result c.id.ensures.same c.id.ensures.member c.deref.ensures.value c.write_told-made.ensures)
    c.keep.ensures.status c.keep.ensures.write c.keep.ensures.count c.keep.ensures.held
