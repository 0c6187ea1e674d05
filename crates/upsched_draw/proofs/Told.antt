-- What is drawn of a run.
use Rattle.std.proofs.Common.{◌≡◌, ℕ, Bool, List, length, Option, Some, None, IfSome, Result, Ok, Err, IfOk, subst}
use Rattle.ballots.specs.declared.members.Members.{Members}
use Rattle.ballots.specs.Members.{member_count}
use Rattle.world_events.specs.declared.event.Event.{Event}
use Rattle.script_steps.specs.declared.entry.Entry.{Entry}
use Rattle.script_text.specs.StepScript.{IsStepScript}
use Rattle.watched_runs.specs.Rows.{Seen}
use Rattle.watched_runs.specs.Steps.{IsStepRun}
use Rattle.upsched_draw.specs.declared.draw.Asked.{Asked}
use Rattle.upsched_draw.specs.Draws.{DrawsRun, DrawsScript, DrawsSteps, span_of}

-- a run is drawn as far as it is asked for
pub run_drawn : (drawn : Bool) (asked : Asked) (members nodes : ℕ) (given ids names : List ℕ) (steps : List Entry) (events : List Event) (run told : Seen) (old new : Option (List ℕ))
    → nodes ≡ members → given ≡ ids → names ≡ ids → told ≡ run
    → IsStepRun nodes given steps events run → DrawsRun drawn members names (span_of asked (length told.rows)) told old new → DrawsSteps drawn members ids asked steps old new
run_drawn drawn asked members nodes given ids names steps events run told old new is_count is_ids is_names same is_run draws =
    let draws_so : DrawsRun drawn members ids (span_of asked (length told.rows)) told old new =
    subst (λ (xs : List ℕ). DrawsRun drawn members xs (span_of asked (length told.rows)) told old new) is_names draws in
    (events, run, rw (is_count, is_ids) at is_run, subst (λ (r : Seen). DrawsRun drawn members ids (span_of asked (length r.rows)) r old new) same draws_so)

-- a picture of a run of a script that is read off a text is what the text draws
script_drawn : (drawn : Bool) (asked : Asked) (known old new : Option (List ℕ)) (count : Members) (ids : List ℕ) (steps : List Entry) → IfSome known (λ text. IsStepScript text count ids steps)
    → DrawsSteps drawn (member_count count) ids asked steps old new → DrawsScript drawn asked known old new
script_drawn drawn asked None old new count ids steps read draws = tt
script_drawn drawn asked (Some text) old new count ids steps read draws = (count, ids, steps, read, draws)

-- where a run went well, its script was drawn
pub plain_drawn : {E : Type 0} (r : Result Bool E) (asked : Asked) (known old new : Option (List ℕ)) (count : Members) (ids : List ℕ) (steps : List Entry)
    → IfSome known (λ text. IsStepScript text count ids steps)
    → IfOk r (λ drawn. DrawsSteps drawn (member_count count) ids asked steps old new) → IfOk r (λ drawn. DrawsScript drawn asked known old new)
plain_drawn (Err e) asked known old new count ids steps read draws = tt
plain_drawn (Ok drawn) asked known old new count ids steps read draws = script_drawn drawn asked known old new count ids steps read draws
