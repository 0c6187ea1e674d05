-- What beginnings of epochs give is a beginning of what the epochs give.
use Rattle.std.proofs.Common.{◌≡◌, ◌∙◌, ℕ, zero, suc, ◌≤◌, Bool, true, false, cond, leb, List, [], ◌∷◌, ◌++◌, length}
use Rattle.std.proofs.Common.{take, map, Some, slice_get, refl, sym, ap, subst, arith, append_assoc, append-nil}
use Rattle.std.proofs.Common.{length-append, leb-true, leb-false, le-leb}
use Rattle.std.proofs.lemmas.List.{map-append}
use Rattle.grant_machine.specs.declared.output.Output.{Output}
use Rattle.grant_machine.specs.Runs.{outputs_from, rows_from}
use Rattle.command_log.specs.Reading.{command_of}
use Rattle.command_log.specs.Values.{outputs_of_values}
use Rattle.command_log.proofs.Callers.{outputs_append}
use Rattle.epochs.specs.Epochs.{IsBeginning, KnownAgree, OutputsJoin, ValuesGoOn, ValuesJoin, values_of}

take_within : {X : Type 0} (n : ℕ) (xs ys : List X) → n ≤ length xs → take n (xs ++ ys) ≡ take n xs
take_within zero xs ys le = refl
take_within (suc n) [] ys le = absurd (omega (arith, le))
take_within {X} (suc n) (x ∷ xs) ys le = ap (λ (zs : List X). x ∷ zs) (take_within n xs ys (omega (arith, le)))

take_short : {X : Type 0} (n : ℕ) (xs ys : List X) → length xs ≤ n → (rest : List X) × (take n (xs ++ ys) ≡ xs ++ rest)
take_short n [] ys le = (take n ys, refl)
take_short zero (x ∷ xs) ys le = absurd (omega (arith, le))
take_short {X} (suc n) (x ∷ xs) ys le = let r = take_short n xs ys (omega (arith, le)) in (r.0, ap (λ (zs : List X). x ∷ zs) r.1)

take_whole : {X : Type 0} (n : ℕ) (xs : List X) → length xs ≤ n → take n xs ≡ xs
take_whole zero [] le = refl
take_whole (suc n) [] le = refl
take_whole zero (x ∷ xs) le = absurd (omega (arith, le))
take_whole {X} (suc n) (x ∷ xs) le = ap (λ (zs : List X). x ∷ zs) (take_whole n xs (omega (arith, le)))

get_in_front : {X : Type 0} (xs ys : List X) (k : ℕ) (x : X) → slice_get xs k ≡ Some x → slice_get (xs ++ ys) k ≡ Some x
get_in_front [] ys k x is = absurd (cc (is))
get_in_front (y ∷ xs) ys zero x is = is
get_in_front (y ∷ xs) ys (suc k) x is = get_in_front xs ys k x is

pub values_begin : ValuesJoin
values_begin places [] ds all = (values_of places ds, refl)
values_begin places (c ∷ cs) [] all = absurd all
values_begin places (c ∷ cs) (d ∷ ds) all = by (values_begin places cs ds all.1) (leb places (length c)) refl
  where
    by : IsBeginning (values_of places cs) (values_of places ds) → (b : Bool) → leb places (length c) ≡ b → IsBeginning (take places c ++ cond b (values_of places cs) []) (take places d ++ cond (leb places (length d)) (values_of places ds) [])
    by rest true full =
        let le : places ≤ length c = leb-true places (length c) full in
        let same : take places c ≡ take places d = sym (take_within places c all.0.0 le) ∙ ap (take places) all.0.1 in
        let more : length (c ++ all.0.0) ≡ length d = ap length all.0.1 in
        let long : places ≤ length d = omega (arith, le, more, length-append c all.0.0) in
        let goes : cond (leb places (length d)) (values_of places ds) [] ≡ values_of places ds = ap (λ b. cond b (values_of places ds) []) (le-leb places (length d) long) in (
          rest.0,
          append_assoc (take places c) (values_of places cs) rest.0
              ∙ ap (λ (xs : List (List ℕ)). take places c ++ xs) rest.1
              ∙ ap (λ (xs : List (List ℕ)). xs ++ values_of places ds) same
              ∙ ap (λ (xs : List (List ℕ)). take places d ++ xs) (sym goes),
        )
    by rest false part =
        let tail : List (List ℕ) = cond (leb places (length d)) (values_of places ds) [] in
        let short : length c ≤ places = (let lt = leb-false places (length c) part in omega (arith, lt)) in
        let r = take_short places c all.0.0 short in (
          r.0 ++ tail,
          ap (λ (xs : List (List ℕ)). xs ++ (r.0 ++ tail)) (append-nil (take places c) ∙ take_whole places c short)
              ∙ sym (append_assoc c r.0 tail)
              ∙ ap (λ (xs : List (List ℕ)). xs ++ tail) (sym r.1 ∙ ap (take places) all.0.1),
        )

-- the outputs of a list of values begin with those of its beginning
pub outputs_begin : (values whole : List (List ℕ)) → IsBeginning values whole → (i : ℕ) (o : Output) → slice_get (outputs_of_values values) i ≡ Some o → slice_get (outputs_of_values whole) i ≡ Some o
outputs_begin values whole begins i o is =
    let more : List Output = outputs_from (rows_from [] (map command_of values)) (map command_of begins.0) in
    let joined : outputs_of_values values ++ more ≡ outputs_of_values (values ++ begins.0) =
    sym (outputs_append [] (map command_of values) (map command_of begins.0)) ∙ ap (outputs_from []) (sym (map-append command_of values begins.0)) in
    subst (λ (os : List Output). slice_get os i ≡ Some o) (joined ∙ ap outputs_of_values begins.1) (get_in_front (outputs_of_values values) more i o is)

pub outputs_join : OutputsJoin
outputs_join places cs ds all i o is = outputs_begin (values_of places cs) (values_of places ds) (values_begin places cs ds all) i o is

pub known_agree : KnownAgree
known_agree places cs cs' ds all all' i o o' is is' =
    let e : Some o ≡ Some o' = sym (outputs_join places cs ds all i o is) ∙ outputs_join places cs' ds all' i o' is' in cc (e)

pub values_go_on : ValuesGoOn
values_go_on places [] c full = by (leb places (length c))
  where
    by : (b : Bool) → take places c ++ cond b [] [] ≡ take places c
    by true = append-nil (take places c)
    by false = append-nil (take places c)
values_go_on places (d ∷ cs) c full =
    let is : leb places (length d) ≡ true = le-leb places (length d) full.0 in
    ap (λ b. take places d ++ cond b (values_of places (cs ++ c ∷ [])) []) is
    ∙ ap (λ (xs : List (List ℕ)). take places d ++ xs) (values_go_on places cs c full.1)
    ∙ sym (append_assoc (take places d) (values_of places cs) (take places c))
    ∙ ap (λ b. (take places d ++ cond b (values_of places cs) []) ++ take places c) (sym is)
