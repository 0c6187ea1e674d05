use Rattle.std.proofs.Common.{subst}
use Rattle.upsched_host.specs.Named.{Who}
use Rattle.upsched_host.specs.Serving.{RunsHost}
use Rattle.upsched_host.proofs.AsNamed.{as_named}
use Rattle.upsched_host.proofs.host_run.host.Goals as goal

pub returns-in-Ok-clause-named : goal.returns-in-Ok-clause-named
returns-in-Ok-clause-named g c = λ who names.
    subst (λ (w : Who). RunsHost g.I.Lines g.O.Outbox w c.run_new-status.result c.args.input.now c.args.output.now c.run_new-status.new.input c.run_new-status.new.output)
    (as_named c.args.words.now who c.in-Ok.who names c.in-Ok.ensures.0) c.run_new-status.ensures.runs

pub returns-in-Ok-clause-unnamed : goal.returns-in-Ok-clause-unnamed
returns-in-Ok-clause-unnamed g c = λ none. absurd (none c.in-Ok.who c.in-Ok.ensures.0)
