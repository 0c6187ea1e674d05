use Rattle.scheduler_lines.proofs.Served.{Served}
use Rattle.scheduler_lines.proofs.service.serve.Given as goal

abbrev pub invariant-loop-count : goal.invariant-loop-count
invariant-loop-count g l = Served g.I.Input g.O.Output l.form l.count l.machine l.initial.input l.initial.output l.input l.output
