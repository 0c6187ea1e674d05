use Rattle.upsched_scheduler.proofs.Ended.{ended_so}
use Rattle.upsched_scheduler.proofs.scheduler_run.serve_lines.Goals as goal

pub returns : goal.returns
returns g c =
    ended_so g.I.Input g.O.Output c.args.form c.ended.result c.serve.result c.args.input.now c.args.output.now c.serve.new.input c.serve.new.output
    c.serve.ensures c.ended.ensures.done
