-- What is printed of a list of commands, one command after another, and of a body.
use Rattle.std.proofs.Common.{◌≡◌, ℕ, ◌+◌, ◌<◌, ◌≤◌, List, [], ◌∷◌, ◌++◌, length, take, get_or, Option, Some, None}
use Rattle.std.proofs.Common.{IfSome, Result, Ok, Err, OnOk, ap, ◌∙◌, sym, subst, refl, add-zero, arith}
use Rattle.std.proofs.lemmas.List.{take_more, take_all, length-take-le, flat_map_more}
use Rattle.std.proofs.lemmas.Slice.Zip.{all_zipped_more}
use Rattle.std.specs.List.{AllZip, enumerate_from}
use Rattle.std.specs.Io.KnownBytes.{Appends, Keeps}
use Rattle.std.proofs.KnownBytes.{Appends-trans, Appends-kept, Appends-nil}
use Rattle.flow_state.specs.Rows.{Rows}
use Rattle.grant_machine.specs.declared.command.Command.{Command}
use Rattle.grant_machine.specs.declared.output.Output.{Output}
use Rattle.grant_machine.specs.Steps.{step}
use Rattle.grant_machine.specs.Runs.{outputs_from, rows_from, outputs_of, rows_after}
use Rattle.grant_machine.proofs.Callers.{rows_push}
use Rattle.map_body.specs.Body.{Body}
use Rattle.json_outputs.specs.Elements.{body_data}
use Rattle.json_outputs.specs.Outputs.{TellsCommand}
use Rattle.script_text.specs.Plan.{IsPlan}
use Rattle.upsched_maps.specs.Show.{IsHexBody}
use Rattle.upsched_json.specs.Lines.{PrintsValue, PrintsLine}
use Rattle.upsched_json.specs.Plans.{TellsNumbered, text_lines, PrintsOutputs, PrintsPlanAsJson}

-- the lines of numbered outputs
abbrev pub PrintsNumbered : List (ℕ × Output) → Option (List ℕ) → Option (List ℕ) → Type 0
PrintsNumbered rows old new = (texts : List (List ℕ)) × AllZip TellsNumbered rows texts × Appends old new (text_lines texts)

line_more : (rows : List (ℕ × Output)) (row : ℕ × Output) (old mid new : Option (List ℕ)) → PrintsNumbered rows old mid
    → PrintsLine (TellsCommand row.0 row.1) mid new → PrintsNumbered (rows ++ row ∷ []) old new
line_more rows row old mid new (texts, told, grown) (text, tells, line) =
    let P : List ℕ → Type 0 = λ bs. Appends old new bs in (
      texts ++ text ∷ [],
      all_zipped_more TellsNumbered rows texts row text told tells,
      subst P (flat_map_more (λ t. t ++ 10 ∷ []) [] texts text) (Appends-trans old mid new _ _ grown line),
    )

-- the output of one command more
numbered_more : (n : ℕ) (rows : Rows) (cs : List Command) (c : Command)
    → enumerate_from n (outputs_from rows (cs ++ c ∷ [])) ≡ enumerate_from n (outputs_from rows cs) ++ (n + length cs, (step (rows_from rows cs) c).output) ∷ []
numbered_more n rows [] c = rw (add-zero n) refl
numbered_more n rows (d ∷ ds) c =
    let rest = numbered_more (n + 1) (step rows d).rows ds c in
    let count : n + 1 + length ds ≡ n + length (d ∷ ds) = omega arith in
    ap (λ t. (n, (step rows d).output) ∷ t) (rw count at rest)

-- the rows after the first commands, and their lines, with one command more
pub one_more : (cs : List Command) (i : ℕ) (d : Command) (m m' : Rows) (old mid new : Option (List ℕ)) → i < length cs
    → m ≡ rows_after (take i cs) → PrintsOutputs (outputs_of (take i cs)) old mid
    → m' ≡ (step m (get_or cs i d)).rows → PrintsLine (TellsCommand (i + 1) (step m (get_or cs i d)).output) mid new
    → (m' ≡ rows_after (take (i + 1) cs)) × PrintsOutputs (outputs_of (take (i + 1) cs)) old new
one_more cs i d m m' old mid new below reached before rows line =
    let front = take i cs in
    let c = get_or cs i d in
    let whole : take (i + 1) cs ≡ front ++ c ∷ [] = take_more cs i d below in
    let long : length front ≡ i = length-take-le i cs (omega arith) in
    let count : i + 1 ≡ 1 + length front = omega arith in
    let last : ℕ × Output = (1 + length front, (step (rows_after front) c).output) in
    let told : PrintsLine (TellsCommand last.0 last.1) mid new = rw (count, reached) at line in
    let grown = line_more (enumerate_from 1 (outputs_of front)) last old mid new before told in (
      rows ∙ ap (λ r. (step r c).rows) reached ∙ sym (rows_push [] front c) ∙ ap rows_after (sym whole),
      rw (whole, numbered_more 1 [] front c) grown,
    )

pub no_lines : (old : Option (List ℕ)) → PrintsOutputs [] old old
no_lines old = ([], tt, Appends-nil old)

-- all of the lines, and then nothing more
pub all_lines : (cs : List Command) (i : ℕ) (old mid new : Option (List ℕ)) → length cs ≤ i
    → PrintsOutputs (outputs_of (take i cs)) old mid → Keeps mid new → PrintsOutputs (outputs_of cs) old new
all_lines cs i old mid new end before kept =
    let (texts, told, grown) = before in
    (texts, rw (take_all i cs end) at told, Appends-kept old mid new _ grown kept)

-- where the outputs of a plan's commands were printed, the plan was
pub plan_printed : {T E : Type 0} (r : Result T E) (known old new : Option (List ℕ)) (cs : List Command) → IfSome known (λ text. IsPlan text cs)
    → OnOk r (PrintsOutputs (outputs_of cs) old new) → OnOk r (PrintsPlanAsJson known old new)
plan_printed (Err e) known old new cs plan prints = tt
plan_printed (Ok x) None old new cs plan prints = tt
plan_printed (Ok x) (Some text) old new cs plan prints = (cs, plan, prints)

-- likewise of digits
pub hex_printed : {T E : Type 0} (r : Result T E) (digits : List ℕ) (map : Body) (old new : Option (List ℕ)) → IsHexBody digits map
    → OnOk r (PrintsValue (body_data map) old new) → OnOk r ((m : Body) × IsHexBody digits m × PrintsValue (body_data m) old new)
hex_printed (Ok x) digits map old new body prints = (map, body, prints)
hex_printed (Err e) digits map old new body prints = tt
