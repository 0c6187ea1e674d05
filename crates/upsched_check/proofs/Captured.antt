-- What is written of a list of commands, one command after another.
use Rattle.std.proofs.Common.{◌≡◌, ℕ, ◌+◌, ◌%◌, ◌^◌, ◌<◌, ◌≤◌, List, [], ◌∷◌, ◌++◌, length, take, get_or, Option, Some}
use Rattle.std.proofs.Common.{None, IfSome, Result, Ok, Err, OnOk, refl, ap, ◌∙◌, sym, append_assoc, append-nil}
use Rattle.std.proofs.Common.{add-zero, arith, length-append}
use Rattle.std.proofs.lemmas.List.{take_more, take_all}
use Rattle.std.proofs.lemmas.Grind.{flat_map-append}
use Rattle.std.specs.Io.KnownBytes.{Appends, Keeps}
use Rattle.std.proofs.KnownBytes.{Appends-trans, Appends-kept}
use Rattle.flow_state.specs.Rows.{Rows}
use Rattle.grant_machine.specs.declared.command.Command.{Command}
use Rattle.grant_machine.specs.declared.output.Output.{Output}
use Rattle.grant_machine.specs.Steps.{step}
use Rattle.grant_machine.specs.Runs.{outputs_from, rows_from, outputs_of, rows_after}
use Rattle.grant_machine.proofs.Callers.{rows_push}
use Rattle.map_frames.specs.Frames.{frame_of}
use Rattle.map_frames.specs.Captures.{record_of, records_from, file_head, capture_of}
use Rattle.script_text.specs.Plan.{IsPlan}
use Rattle.upsched_check.specs.Plans.{bodies_in, bodies_of, CapturesPlan}

-- one command more gives one output more
outputs_more : (rows : Rows) (cs : List Command) (c : Command) → outputs_from rows (cs ++ c ∷ []) ≡ outputs_from rows cs ++ (step (rows_from rows cs) c).output ∷ []
outputs_more rows [] c = refl
outputs_more rows (d ∷ cs) c = ap (λ (os : List Output). (step rows d).output ∷ os) (outputs_more (step rows d).rows cs c)

records-append : (n : ℕ) (xs ys : List (List ℕ)) → records_from n (xs ++ ys) ≡ records_from n xs ++ records_from (n + length xs) ys
records-append n [] ys = rw (add-zero n) refl
records-append n (x ∷ xs) ys =
    let count : n + 1 + length xs ≡ n + length (x ∷ xs) = omega arith in
    let rest = records-append (n + 1) xs ys in
    ap (λ (t : List ℕ). record_of (n % 2 ^ 32) (frame_of x) ++ t) (rw count at rest)
    ∙ sym (append_assoc (record_of (n % 2 ^ 32) (frame_of x)) (records_from (n + 1) xs) (records_from (n + length (x ∷ xs)) ys))

-- the outputs and the rows after one command more
pub outputs_next : (cs : List Command) (i : ℕ) (d : Command) (m : Rows) → i < length cs → m ≡ rows_after (take i cs)
    → outputs_of (take (i + 1) cs) ≡ outputs_of (take i cs) ++ (step m (get_or cs i d)).output ∷ []
outputs_next cs i d m below is =
    ap outputs_of (take_more cs i d below) ∙ outputs_more [] (take i cs) (get_or cs i d)
    ∙ ap (λ (r : Rows). outputs_of (take i cs) ++ (step r (get_or cs i d)).output ∷ []) (sym is)

pub rows_next : (cs : List Command) (i : ℕ) (d : Command) (m : Rows) → i < length cs → m ≡ rows_after (take i cs)
    → rows_after (take (i + 1) cs) ≡ (step m (get_or cs i d)).rows
rows_next cs i d m below is =
    ap rows_after (take_more cs i d below) ∙ rows_push [] (take i cs) (get_or cs i d) ∙ ap (λ (r : Rows). (step r (get_or cs i d)).rows) (sym is)

-- the rows after the first commands, how many MAPs they gave, and the records of these
pub record Written (cs : List Command) (i : ℕ) (rows : Rows) (count : ℕ) (old new : Option (List ℕ)) : Type 0 where
  pub rows_are : rows ≡ rows_after (take i cs)
  pub counted : count ≡ length (bodies_of (outputs_of (take i cs)))
  pub few : count ≤ i
  pub grown : Appends old new (records_from 0 (bodies_of (outputs_of (take i cs))))

pub one_more : (cs : List Command) (i : ℕ) (d : Command) (m m' : Rows) (n n' : ℕ) (old mid new : Option (List ℕ)) → i < length cs
    → Written cs i m n old mid → m' ≡ (step m (get_or cs i d)).rows → n' ≡ length (bodies_in (step m (get_or cs i d)).output) → n' ≤ 1
    → Appends mid new (records_from n (bodies_in (step m (get_or cs i d)).output)) → Written cs (i + 1) m' (n + n') old new
one_more cs i d m m' n n' old mid new below before rows more small lines =
    let front = take i cs in
    let output = (step m (get_or cs i d)).output in
    let bodies = bodies_of (outputs_of front) in
    let outs = outputs_next cs i d m below before.rows_are in
    let all : bodies_of (outputs_of (take (i + 1) cs)) ≡ bodies ++ bodies_in output =
    ap bodies_of outs ∙ flat_map-append bodies_in (outputs_of front) (output ∷ []) ∙ ap (λ (t : List (List ℕ)). bodies ++ t) (append-nil (bodies_in output)) in
    let behind = Appends-trans old mid new _ _ before.grown lines in
    let joined : records_from 0 bodies ++ records_from n (bodies_in output) ≡ records_from 0 (bodies_of (outputs_of (take (i + 1) cs))) =
    let place : n ≡ 0 + length bodies = omega (arith, before.counted) in
    ap (λ (k : ℕ). records_from 0 bodies ++ records_from k (bodies_in output)) place ∙ sym (records-append 0 bodies (bodies_in output)) ∙ ap (λ (t : List (List ℕ)). records_from 0 t) (sym all) in
    record {
      rows_are = rows ∙ sym (rows_next cs i d m below before.rows_are);
      counted = let len = length-append bodies (bodies_in output) in let long = ap length all in omega (arith, len, long, before.counted, more);
      few = omega (arith, before.few);
      grown = rw joined at behind;
    }

-- the head, all of the records, and then nothing more
pub all_records : (cs : List Command) (i : ℕ) (m : Rows) (n : ℕ) (old head mid new : Option (List ℕ)) → length cs ≤ i
    → Appends old head file_head → Written cs i m n head mid → Keeps mid new → Appends old new (capture_of (bodies_of (outputs_of cs)))
all_records cs i m n old head mid new end begun written kept =
    let same = take_all i cs end in
    let grown = rw same at written.grown in
    Appends-kept old mid new _ (Appends-trans old head mid _ _ begun grown) kept

-- where the capture of a plan's commands was written, the plan's was
pub plan_captured : {T E : Type 0} (r : Result T E) (known old new : Option (List ℕ)) (cs : List Command) → IfSome known (λ text. IsPlan text cs)
    → OnOk r (Appends old new (capture_of (bodies_of (outputs_of cs)))) → OnOk r (CapturesPlan known old new)
plan_captured (Err e) known old new cs plan captured = tt
plan_captured (Ok x) None old new cs plan captured = tt
plan_captured (Ok x) (Some text) old new cs plan captured = (cs, plan, captured)
