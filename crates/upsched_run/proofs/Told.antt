-- What is printed of a run, one event after another.
use Rattle.std.proofs.Common.{◌≡◌, Bool, ℕ, ◌+◌, ◌<◌, ◌≤◌, List, [], ◌∷◌, ◌++◌, length, get_or, drop, Option, Some}
use Rattle.std.proofs.Common.{None, IfSome, Result, Ok, Err, OnOk, ap, ◌∙◌, sym, refl, append_assoc, append-nil}
use Rattle.std.proofs.Common.{add-one, add_assoc, subst, arith}
use Rattle.std.proofs.lemmas.Grind.{flat_map-append}
use Rattle.std.proofs.Math.Seq.{drop-cons}
use Rattle.std.specs.Io.KnownBytes.{Appends}
use Rattle.std.specs.List.{flat_map}
use Rattle.std.proofs.KnownBytes.{Appends-nil, Appends-trans}
use Rattle.ballots.specs.Members.{member_count}
use Rattle.ballots.specs.declared.letters.Letter.{Letter}
use Rattle.ballots.specs.declared.members.Members.{Members}
use Rattle.script_steps.specs.declared.entry.Entry.{Entry}
use Rattle.script_text.specs.StepScript.{IsStepScript}
use Rattle.watched_runs.specs.Marks.{between}
use Rattle.watched_runs.specs.Rows.{Row, Seen}
use Rattle.watched_runs.specs.Steps.{IsStepRun}
use Rattle.world_events.specs.declared.event.Event.{Event}
use Rattle.watched_runs.proofs.Stages.{none_between, one_between}
use Rattle.upsched_run.specs.declared.trace.Trace.{Trace}
use Rattle.upsched_run.specs.Run.{PrintsScript, PrintsSteps}
use Rattle.upsched_run.specs.RunLines.{letter_line, letter_lines, run_lines}

-- some text was printed, and what is left joined to it is the whole
pub record IsPartOf (whole left : List ℕ) (old new : Option (List ℕ)) : Type 0 where
  pub text : List ℕ
  pub grown : Appends old new text
  pub joined : text ++ left ≡ whole

-- a text more
pub one_more : (whole xs left : List ℕ) (old a b : Option (List ℕ)) → IsPartOf whole (xs ++ left) old a → Appends a b xs → IsPartOf whole left old b
one_more whole xs left old a b before first = record {
  text = before.text ++ xs;
  grown = Appends-trans old a b _ _ before.grown first;
  joined = append_assoc before.text xs left ∙ before.joined;
}

-- the next letter's line comes first of those that are left
pub one_letter : (named : Bool) (word : List ℕ) (letters : List Letter) (first i : ℕ) (l : Letter) (whole : List ℕ) (old x y : Option (List ℕ)) → i < length letters → l ≡ get_or letters i l
    → IsPartOf whole (letter_lines named word (first + i) (drop i letters)) old x → Appends x y (letter_line named word (first + i) l)
    → IsPartOf whole (letter_lines named word (first + (i + 1)) (drop (i + 1) letters)) old y
one_letter named word letters first i l whole old x y below is_letter before line =
    let next : letter_lines named word (first + i) (drop i letters) ≡ letter_line named word (first + i) l ++ letter_lines named word (first + (i + 1)) (drop (i + 1) letters) =
    rw (drop-cons letters i l below, sym is_letter, sym (add_assoc first i 1), add-one i) refl in
    one_more whole _ _ old x y (rw next at before) line

-- the lines of no row, and of one row more
pub no_row : (f : Row → List ℕ) (rows : List Row) (n : ℕ) (old : Option (List ℕ)) → Appends old old (flat_map f (between (n, n) rows))
no_row f rows n old = subst (λ (rs : List Row). Appends old old (flat_map f rs)) (sym (none_between n rows)) (Appends-nil old)

pub one_row : (f : Row → List ℕ) (rows : List Row) (from i : ℕ) (row : Row) (old mid new : Option (List ℕ)) → from ≤ i → i < length rows → row ≡ get_or rows i row
    → Appends old mid (flat_map f (between (from, i) rows)) → Appends mid new (f row) → Appends old new (flat_map f (between (from, i + 1) rows))
one_row f rows from i row old mid new above below is before line =
    let whole : flat_map f (between (from, i + 1) rows) ≡ flat_map f (between (from, i) rows) ++ f row =
    ap (flat_map f) (one_between from i rows row above below is) ∙ flat_map-append f (between (from, i) rows) (row ∷ [])
    ∙ ap (λ t. flat_map f (between (from, i) rows) ++ t) (append-nil (f row)) in
    subst (Appends old new) (sym whole) (Appends-trans old mid new _ _ before line)

-- and of all, where these are the rows
pub all_rows : (f : Row → List ℕ) (rows : List Row) (from to i : ℕ) (whole : List Row) (old new : Option (List ℕ)) → i ≤ to → to ≤ i → between (from, to) rows ≡ whole
    → Appends old new (flat_map f (between (from, i) rows)) → Appends old new (flat_map f whole)
all_rows f rows from to i whole old new within past same lines =
    let end : i ≡ to = omega (arith, within, past) in
    subst (λ (rs : List Row). Appends old new (flat_map f rs)) (ap (λ k. between (from, k) rows) end ∙ same) lines

-- a run is printed whole
pub run_told : (trace : Trace) (members : ℕ) (given ids : List ℕ) (entries : List Entry) (events : List Event) (run told : Seen) (old new : Option (List ℕ)) → given ≡ ids → told ≡ run
    → IsStepRun members given entries events run → Appends old new (run_lines trace told) → PrintsSteps trace members ids entries old new
run_told trace members given ids entries events run told old new is_ids same is_run lines = (events, run, rw is_ids at is_run, rw same at lines)

-- lines of a run of a script that is read off a text are what the text prints
pub script_printed : (trace : Trace) (known old new : Option (List ℕ)) (count : Members) (ids : List ℕ) (entries : List Entry) → IfSome known (λ text. IsStepScript text count ids entries)
    → PrintsSteps trace (member_count count) ids entries old new → PrintsScript trace known old new
script_printed trace None old new count ids entries read prints = tt
script_printed trace (Some text) old new count ids entries read prints = (count, ids, entries, read, prints)

-- where a run went well, its script was printed
pub plain_printed : {T E : Type 0} (trace : Trace) (r : Result T E) (known old new : Option (List ℕ)) (count : Members) (ids : List ℕ) (entries : List Entry) → IfSome known (λ text. IsStepScript text count ids entries)
    → OnOk r (PrintsSteps trace (member_count count) ids entries old new) → OnOk r (PrintsScript trace known old new)
plain_printed trace (Err e) known old new count ids entries read prints = tt
plain_printed trace (Ok x) known old new count ids entries read prints = script_printed trace known old new count ids entries read prints
