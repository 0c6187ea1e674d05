-- How a run of lines ends, as the program tells it.
use Rattle.std.proofs.Common.{◌≡◌, ◌↔◌, true, false, Result, Ok, Err, IsOk, MatchResult, refl, subst}
use Rattle.upsched_ends.specs.declared.status.Status.TheVariants.{Done, Faulted}
use Rattle.scheduler_lines.specs.declared.form.ReplyForm.{ReplyForm}
use Rattle.scheduler_lines.specs.declared.incoming.Input.{Ghosts as Inputs}
use Rattle.scheduler_lines.specs.declared.outgoing.Output.{Ghosts as Outputs}
use Rattle.scheduler_lines.specs.declared.service.End.{End}
use Rattle.scheduler_lines.specs.declared.service.End.TheVariants as ends
use Rattle.scheduler_lines.specs.Serving.{SchedulerEndsBy}
use Rattle.upsched_scheduler.specs.Running.{RunsScheduler}

pub ended_so : {I O F : Type 0} (input : Inputs I) (output : Outputs O) (form : ReplyForm) (r : Result (Unit {0}) F) (end : End) (i : I) (o : O) (i' : I) (o' : O)
    → SchedulerEndsBy input output form end i o i' o' → (IsOk r ↔ (end ≡ ends.Input))
    → MatchResult r (λ done. RunsScheduler input output form Done i o i' o') (λ fault. RunsScheduler input output form Faulted i o i' o')
ended_so input output form (Ok done) end i o i' o' so tells = subst (λ (x : End). SchedulerEndsBy input output form x i o i' o') (tells.0 refl) so
ended_so input output form (Err fault) end i o i' o' so tells = (end, (λ is. let wrong : false ≡ true = tells.1 is in cc), so)
