-- What is printed of a list of commands, one command after another, where each line is of a command and the rows before it.
use Rattle.std.proofs.Common.{◌≡◌, ℕ, ◌+◌, ◌<◌, ◌≤◌, List, [], ◌∷◌, ◌++◌, length, take, get_or, Option, Some, None}
use Rattle.std.proofs.Common.{IfSome, Result, Ok, Err, OnOk, refl, subst, ap, ◌∙◌, sym, append_assoc, append-nil}
use Rattle.std.proofs.Common.{add-zero, arith}
use Rattle.std.proofs.lemmas.List.{take_more, take_all, length-take-le}
use Rattle.std.specs.Io.KnownBytes.{Appends, Keeps}
use Rattle.std.proofs.KnownBytes.{Appends-trans, Appends-kept}
use Rattle.flow_state.specs.Rows.{Rows}
use Rattle.grant_machine.specs.declared.command.Command.{Command}
use Rattle.grant_machine.specs.Steps.{step}
use Rattle.grant_machine.specs.Runs.{outputs_from, rows_from, outputs_of}
use Rattle.grant_machine.proofs.Callers.{rows_push}
use Rattle.script_text.specs.Plan.{IsPlan}
use Rattle.upsched_maps.specs.Lines.{output_line, output_lines, PrintsPlan}
use Rattle.upsched_maps.specs.Refusals.{lines_from, named_lines, PrintsNamed}

-- the lines of one command more
lines_more : (line : ℕ → Rows → Command → List ℕ) (n : ℕ) (rows : Rows) (cs : List Command) (c : Command)
    → lines_from line n rows (cs ++ c ∷ []) ≡ lines_from line n rows cs ++ line (n + length cs) (rows_from rows cs) c
lines_more line n rows [] c = rw (add-zero n) (append-nil (line n rows c))
lines_more line n rows (d ∷ ds) c =
    let rest = lines_more line (n + 1) (step rows d).rows ds c in
    let count : n + 1 + length ds ≡ n + length (d ∷ ds) = omega arith in
    ap (λ t. line n rows d ++ t) (rw count at rest) ∙ sym (append_assoc (line n rows d) (lines_from line (n + 1) (step rows d).rows ds) _)

-- the rows after the first commands, and their lines, with one command more
pub one_more : (line : ℕ → Rows → Command → List ℕ) (begun : Rows) (cs : List Command) (i : ℕ) (d : Command) (m m' : Rows) (old mid new : Option (List ℕ)) → i < length cs
    → m ≡ rows_from begun (take i cs) → Appends old mid (lines_from line 1 begun (take i cs))
    → m' ≡ (step m (get_or cs i d)).rows → Appends mid new (line (i + 1) m (get_or cs i d))
    → (m' ≡ rows_from begun (take (i + 1) cs)) × Appends old new (lines_from line 1 begun (take (i + 1) cs))
one_more line begun cs i d m m' old mid new below reached before rows printed =
    let front = take i cs in
    let c = get_or cs i d in
    let whole : take (i + 1) cs ≡ front ++ c ∷ [] = take_more cs i d below in
    let long : length front ≡ i = length-take-le i cs (omega arith) in
    let count : i + 1 ≡ 1 + length front = omega arith in
    let lines = Appends-trans old mid new _ _ before (rw (count, reached) at printed) in (
      rows ∙ ap (λ r. (step r c).rows) reached ∙ sym (rows_push begun front c) ∙ ap (rows_from begun) (sym whole),
      rw (whole, lines_more line 1 begun front c) lines,
    )

-- all of the lines
pub all_of : (line : ℕ → Rows → Command → List ℕ) (begun : Rows) (cs : List Command) (i : ℕ) (old new : Option (List ℕ)) → length cs ≤ i
    → Appends old new (lines_from line 1 begun (take i cs)) → Appends old new (lines_from line 1 begun cs)
all_of line begun cs i old new end grown = rw (take_all i cs end) at grown

-- and then nothing more
pub all_lines : (line : ℕ → Rows → Command → List ℕ) (begun : Rows) (cs : List Command) (i : ℕ) (old mid new : Option (List ℕ)) → length cs ≤ i
    → Appends old mid (lines_from line 1 begun (take i cs)) → Keeps mid new → Appends old new (lines_from line 1 begun cs)
all_lines line begun cs i old mid new end grown kept = Appends-kept old mid new _ (all_of line begun cs i old mid end grown) kept

-- and all of the rows
pub all_rows : (begun m : Rows) (cs : List Command) (i : ℕ) → length cs ≤ i → m ≡ rows_from begun (take i cs) → m ≡ rows_from begun cs
all_rows begun m cs i end reached = reached ∙ ap (rows_from begun) (take_all i cs end)

-- the line of a command's output
abbrev pub line_of_output : ℕ → Rows → Command → List ℕ
line_of_output n rows c = output_line n (step rows c).output

-- the lines of outputs are those of their commands
are_lines : (n : ℕ) (rows : Rows) (cs : List Command) → lines_from line_of_output n rows cs ≡ output_lines n (outputs_from rows cs)
are_lines n rows [] = refl
are_lines n rows (c ∷ cs) = ap (λ t. output_line n (step rows c).output ++ t) (are_lines (n + 1) (step rows c).rows cs)

pub all_outputs : (begun : Rows) (cs : List Command) (i : ℕ) (old mid new : Option (List ℕ)) → length cs ≤ i
    → Appends old mid (lines_from line_of_output 1 begun (take i cs)) → Keeps mid new → Appends old new (output_lines 1 (outputs_from begun cs))
all_outputs begun cs i old mid new end grown kept =
    subst (λ t. Appends old new t) (are_lines 1 begun cs) (all_lines line_of_output begun cs i old mid new end grown kept)

-- where the outputs of a plan's commands were printed, the plan was
pub plan_printed : {T E : Type 0} (r : Result T E) (known old new : Option (List ℕ)) (cs : List Command) → IfSome known (λ text. IsPlan text cs)
    → OnOk r (Appends old new (output_lines 1 (outputs_of cs))) → OnOk r (PrintsPlan known old new)
plan_printed (Err e) known old new cs plan prints = tt
plan_printed (Ok x) None old new cs plan prints = tt
plan_printed (Ok x) (Some text) old new cs plan prints = (cs, plan, prints)

-- and where they were printed with the reasons of refusals
pub named_printed : {T E : Type 0} (r : Result T E) (known old new : Option (List ℕ)) (cs : List Command) → IfSome known (λ text. IsPlan text cs)
    → OnOk r (Appends old new (named_lines cs)) → OnOk r (PrintsNamed known old new)
named_printed (Err e) known old new cs plan prints = tt
named_printed (Ok x) None old new cs plan prints = tt
named_printed (Ok x) (Some text) old new cs plan prints = (cs, plan, prints)
