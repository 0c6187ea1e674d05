use Rattle.scheduler_lines.proofs.Served.{none_served, one_more, sent_out, unreplied, unsent}
use Rattle.scheduler_lines.proofs.service.serve.Goals as goal

pub loop-count-init : goal.loop-count-init
loop-count-init g c = none_served g.I.Input g.O.Output c.args.form c.new-machine.result c.args.input.now c.args.output.now c.new-machine.ensures

pub returns-in-Err : goal.returns-in-Err
returns-in-Err g c =
    unsent g.I.Input g.O.Output c.args.form c.loop-count.count c.loop-count.machine c.in-Err.why c.args.input.now c.args.output.now
    c.loop-count.input c.loop-count.output c.send_before_wait.new.output c.loop-count.invariant c.in-Err.ensures.fails

pub returns-in-Err-write_reply : goal.returns-in-Err-write_reply
returns-in-Err-write_reply g c =
    let sent = sent_out g.I.Input g.O.Output c.args.form c.loop-count.count c.loop-count.machine c.args.input.now c.args.output.now
    c.loop-count.input c.loop-count.output c.send_before_wait.new.output c.loop-count.invariant c.in_default.ensures.kept in
    unreplied g.I.Input g.O.Output c.args.form c.loop-count.count c.in-Err-write_reply.why c.in-Ok.what c.in-Some.reply c.loop-count.machine c.reply_to.new.machine
    c.args.input.now c.args.output.now c.loop-count.input c.send_before_wait.new.output c.next_command.new.self c.write_reply.new.self
    sent c.in-Ok.ensures.comes c.in-Some.ensures c.in-Err-write_reply.ensures.fails

pub loop-count-preserved : goal.loop-count-preserved
loop-count-preserved g c =
    let sent = sent_out g.I.Input g.O.Output c.args.form c.loop-count.count c.loop-count.machine c.args.input.now c.args.output.now
    c.loop-count.input c.loop-count.output c.send_before_wait.new.output c.loop-count.invariant c.in_default.ensures.kept in
    one_more g.I.Input g.O.Output c.args.form c.loop-count.count c.in-Ok.what c.in-Some.reply c.loop-count.machine c.reply_to.new.machine
    c.args.input.now c.args.output.now c.loop-count.input c.send_before_wait.new.output c.next_command.new.self c.write_reply.new.self
    sent c.in-Ok.ensures.comes c.in-Some.ensures c.in_default-write_reply.ensures.written
