-- What is printed of a run, one event after another.
use Rattle.std.proofs.Common.{◌≡◌, Bool, ℕ, ◌+◌, ◌<◌, List, [], ◌∷◌, ◌++◌, length, get_or, take, Option, Some, None}
use Rattle.std.proofs.Common.{IfSome, Result, Ok, Err, OnOk, ap, subst, ◌∙◌, sym}
use Rattle.std.proofs.lemmas.List.{flat_map_more, take_more}
use Rattle.std.proofs.lemmas.Slice.Zip.{all_zipped_more}
use Rattle.std.specs.Io.KnownBytes.{Appends, Keeps}
use Rattle.std.proofs.KnownBytes.{Appends-trans, Appends-nil}
use Rattle.ballots.specs.Members.{member_count}
use Rattle.ballots.specs.declared.letters.Letter.{Letter}
use Rattle.ballots.specs.declared.members.Members.{Members}
use Rattle.seats.specs.declared.answer.ReleasedOutput.{ReleasedOutput}
use Rattle.seats.specs.declared.answer.Transmission.{Transmission}
use Rattle.script_steps.specs.declared.entry.Entry.{Entry}
use Rattle.script_text.specs.StepScript.{IsStepScript}
use Rattle.watched_runs.specs.Rows.{Row, Seen}
use Rattle.watched_runs.specs.Steps.{IsStepRun}
use Rattle.world_events.specs.declared.event.Event.{Event}
use Rattle.json_answers.specs.Events.{TellsRow, counts_data}
use Rattle.upsched_json.proofs.Callers.{value_kept}
use Rattle.upsched_json.specs.Lines.{PrintsLine, PrintsValue}
use Rattle.upsched_json_run.specs.Runs.{IsTextOfRow, PrintsRows, PrintsRun, PrintsScriptAsJson, PrintsStepsAsJson}

-- no event yet
pub none_told : (traced : Bool) (old : Option (List ℕ)) → PrintsRows traced [] old old
none_told traced old = ([], tt, Appends-nil old)

-- the line of one event more
pub one_told : (traced : Bool) (rows : List Row) (i : ℕ) (row : Row) (old mid new : Option (List ℕ)) → i < length rows → row ≡ get_or rows i row
    → PrintsRows traced (take i rows) old mid → PrintsLine (TellsRow traced row) mid new → PrintsRows traced (take (i + 1) rows) old new
one_told traced rows i row old mid new below is (texts, told, grown) (text, tells, line) =
    let P : List ℕ → Type 0 = λ bs. Appends old new bs in
    let Q : List Row → Type 0 = λ rs. PrintsRows traced rs old new in
    let whole : take (i + 1) rows ≡ take i rows ++ row ∷ [] = take_more rows i row below ∙ ap (λ (r : Row). take i rows ++ r ∷ []) (sym is) in
    subst Q (sym whole) (
      texts ++ text ∷ [],
      all_zipped_more (IsTextOfRow traced) (take i rows) texts row text told tells,
      subst P (flat_map_more (λ t. t ++ 10 ∷ []) [] texts text) (Appends-trans old mid new _ _ grown line),
    )

-- and behind them the counts
pub run_printed : (traced : Bool) (run : Seen) (letters : List Letter) (outputs : List ReleasedOutput) (sent : List Transmission) (old mid out new : Option (List ℕ))
    → PrintsRows traced run.rows old mid → letters ≡ run.letters → outputs ≡ run.outputs → sent ≡ run.transmissions
    → PrintsValue (counts_data (length letters) (length outputs) (length sent)) mid out → Keeps out new → PrintsRun traced run old new
run_printed traced run letters outputs sent old mid out new rows is_letters is_outputs is_sent last kept =
    let counts : PrintsValue (counts_data (length run.letters) (length run.outputs) (length run.transmissions)) mid out = rw (is_letters, is_outputs, is_sent) at last in
    (mid, rows, value_kept (counts_data (length run.letters) (length run.outputs) (length run.transmissions)) mid out new counts kept)

-- a run is printed
pub run_told : (traced : Bool) (members : ℕ) (given ids : List ℕ) (steps : List Entry) (events : List Event) (run told : Seen) (old new : Option (List ℕ)) → given ≡ ids → told ≡ run
    → IsStepRun members given steps events run → PrintsRun traced told old new → PrintsStepsAsJson traced members ids steps old new
run_told traced members given ids steps events run told old new is_ids same is_run printed =
    (events, run, rw is_ids at is_run, subst (λ (r : Seen). PrintsRun traced r old new) same printed)

-- lines of a run of a script that is read off a text are what the text prints
script_printed : (traced : Bool) (known old new : Option (List ℕ)) (count : Members) (ids : List ℕ) (steps : List Entry) → IfSome known (λ text. IsStepScript text count ids steps)
    → PrintsStepsAsJson traced (member_count count) ids steps old new → PrintsScriptAsJson traced known old new
script_printed traced None old new count ids steps read prints = tt
script_printed traced (Some text) old new count ids steps read prints = (count, ids, steps, read, prints)

-- where a run went well, its script was printed
pub plain_printed : {T E : Type 0} (traced : Bool) (r : Result T E) (known old new : Option (List ℕ)) (count : Members) (ids : List ℕ) (steps : List Entry) → IfSome known (λ text. IsStepScript text count ids steps)
    → OnOk r (PrintsStepsAsJson traced (member_count count) ids steps old new) → OnOk r (PrintsScriptAsJson traced known old new)
plain_printed traced (Err e) known old new count ids steps read prints = tt
plain_printed traced (Ok x) known old new count ids steps read prints = script_printed traced known old new count ids steps read prints
