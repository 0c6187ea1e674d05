-- How the program ends that is one scheduler.
use Rattle.std.specs.Prelude.{◌≢◌}
use Rattle.upsched_ends.specs.declared.status.Status.{Status}
use Rattle.upsched_ends.specs.declared.status.Status.TheVariants.{Done, Faulted, NotUnderstood}
use Rattle.scheduler_lines.specs.declared.form.ReplyForm.{ReplyForm}
use Rattle.scheduler_lines.specs.declared.incoming.Input.{Ghosts as Inputs}
use Rattle.scheduler_lines.specs.declared.outgoing.Output.{Ghosts as Outputs}
use Rattle.scheduler_lines.specs.declared.service.End.{End}
use Rattle.scheduler_lines.specs.declared.service.End.TheVariants as ends
use Rattle.scheduler_lines.specs.Serving.{SchedulerEndsBy}

-- it replied to all lines and none is left, or it ended otherwise
abbrev pub RunsScheduler : {I O : Type 0} → Inputs I → Outputs O → ReplyForm → Status → I → O → I → O → Type 0
RunsScheduler input output form Done i o i' o' = SchedulerEndsBy input output form ends.Input i o i' o'
RunsScheduler input output form Faulted i o i' o' = (end : End) × (end ≢ ends.Input) × SchedulerEndsBy input output form end i o i' o'
RunsScheduler input output form NotUnderstood i o i' o' = ⊥
