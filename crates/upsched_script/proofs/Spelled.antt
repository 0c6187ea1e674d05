-- Numbers between commas are parted at the commas.
use Rattle.std.proofs.Common.{◌≡◌, ℕ, ◌<◌, ◌^◌, List, [], ◌∷◌, ◌++◌, get_or, map, drop, decimal}
use Rattle.std.proofs.Common.{Option, Some, None, Result, Ok, Err, refl, sym, ap, subst, ◌∙◌, arith, eqb, Bool, false}
use Rattle.std.specs.List.{All, AllByRecursion, slice_split}
use Rattle.std.specs.Char.{digit_value}
use Rattle.std.specs.Result.{OkIff}
use Rattle.std.specs.Str.Parse.{AllDigits, IsNumeral, ParsesUnsigned, digits_value, without_leading_plus}
use Rattle.std.proofs.lemmas.Iterator.{YieldsList}
use Rattle.std.proofs.lemmas.Fmt.{decimal_is_IsNumeral}
use Rattle.std.proofs.lemmas.List.{append-nil, append_assoc}
use Rattle.std.proofs.lemmas.List.Elements.{All-nil, All-cons}
use Rattle.std.proofs.lemmas.List.Splits.{slice_split_none, slice_split_at}
use Rattle.upsched_script.specs.Scripts.{AreIds, numbers_text}

abbrev is_comma : ℕ → Bool
is_comma b = eqb b 44

-- digits are no commas
no_commas : (cs : List ℕ) → AllDigits 10 cs → All (λ c. is_comma c ≡ false) cs
no_commas [] digits = All-nil (λ c. is_comma c ≡ false)
no_commas (c ∷ cs) digits = All-cons (λ c. is_comma c ≡ false) c cs (no_comma c digits.0) (no_commas cs digits.1)
  where
    no_comma : (c : ℕ) → digit_value c < 10 → is_comma c ≡ false
    no_comma c small = grind (arith, small)

-- nor do they begin with a plus
plain : (cs : List ℕ) → IsNumeral 10 cs → without_leading_plus cs ≡ cs
plain [] digits = absurd (omega (arith, digits.0))
plain (c ∷ cs) digits = let d = digits.1.0 in grind (arith, d)

parts_of : (n : ℕ) (ns : List ℕ) → AllByRecursion (λ id. id < 2 ^ 32) (n ∷ ns) → slice_split is_comma (numbers_text (n ∷ ns)) ≡ map decimal (n ∷ ns)
parts_of n [] small =
    let digits = (decimal_is_IsNumeral n (omega (arith, small.0))).0 in
    ap (slice_split is_comma) (append-nil (decimal n)) ∙ slice_split_none is_comma (decimal n) (no_commas (decimal n) digits.1)
parts_of n (m ∷ ms) small =
    let digits = (decimal_is_IsNumeral n (omega (arith, small.0))).0 in
    slice_split_at is_comma (decimal n) 44 (numbers_text (m ∷ ms)) (no_commas (decimal n) digits.1) refl
    ∙ ap (λ (xs : List (List ℕ)). decimal n ∷ xs) (parts_of m ms small.1)

-- what is left of the parts of a word, where it is numbers between commas
abbrev pub Parted : (word numbers : List ℕ) → List (List ℕ) → Type 0
Parted word numbers left =
    (ids : List ℕ) → AreIds ids → word ≡ numbers_text ids → (rest : List ℕ) × (ids ≡ numbers ++ rest) × AllByRecursion (λ id. id < 2 ^ 32) rest × (left ≡ map decimal rest)

pub parted : (word : List ℕ) → Parted word [] (slice_split is_comma word)
parted word [] are same = absurd (are.0 refl)
parted word (n ∷ ns) are same = (n ∷ ns, refl, are.1, ap (slice_split is_comma) same ∙ parts_of n ns are.1)

-- a number is read as itself
pub number_read : {E : Type 0} (n : ℕ) (part : List ℕ) (r : Result ℕ E) → n < 2 ^ 32 → part ≡ decimal n → ParsesUnsigned 32 10 part r → r ≡ Ok n
number_read n part r small same parses = by r (subst (λ (bs : List ℕ). OkIff r (IsNumeral 10 bs × (digits_value 10 bs < 2 ^ 32)) (digits_value 10 bs)) (ap without_leading_plus same ∙ plain (decimal n) is.0) parses)
  where
    is : IsNumeral 10 (decimal n) × (digits_value 10 (decimal n) ≡ n)
    is = decimal_is_IsNumeral n (omega (arith, small))

    by : {E : Type 0} (r : Result ℕ E) → OkIff r (IsNumeral 10 (decimal n) × (digits_value 10 (decimal n) < 2 ^ 32)) (digits_value 10 (decimal n)) → r ≡ Ok n
    by (Ok x) p = ap (λ m. Ok m) (p.1 ∙ is.1)
    by (Err e) p = absurd (p (is.0, subst (λ m. m < 2 ^ 32) (sym is.1) small))

-- what comes of an iterator is the first of what it yields, or nothing is left
module _ {S A B : Type 0} {steps : S → Option A → S → Type 0} {v : A → B} where
  pub comes : {s t : S} (left : List B) (x : A) → YieldsList steps v s left → steps s (Some x) t → (later : List B) × (left ≡ v x ∷ later) × YieldsList steps v t later
  comes {s} {t} [] x all step = absurd (all.runs x t step)
  comes {s} {t} (y ∷ ys) x all step =
      let next = all.runs.1 x t step in
      (ys, ap (λ (z : B). z ∷ ys) (sym next.0), record { runs = next.1 })

  pub ends : {s t : S} (left : List B) → YieldsList steps v s left → steps s None t → left ≡ []
  ends [] all step = refl
  ends {s} {t} (y ∷ ys) all step = absurd (all.runs.0 t step)

-- one part more
module _ (word numbers : List ℕ) (part : List ℕ) (left : List (List ℕ)) (before : Parted word numbers (part ∷ left)) where
  part_is : (ids : List ℕ) → AreIds ids → word ≡ numbers_text ids → (n : ℕ) × (part ≡ decimal n) × (n < 2 ^ 32)
  part_is ids are same = by (before ids are same).0 (before ids are same).2 (before ids are same).3
    where
      by : (rest : List ℕ) → AllByRecursion (λ id. id < 2 ^ 32) rest → part ∷ left ≡ map decimal rest → (n : ℕ) × (part ≡ decimal n) × (n < 2 ^ 32)
      by [] small is = absurd (let e = is in cc)
      by (n ∷ ns) small is = (n, ap (λ (xs : List (List ℕ)). get_or xs 0 []) is, small.0)

  -- where it isn't read, the word is no numbers
  pub not_read : {E : Type 0} (e : E) (r : Result ℕ E) → r ≡ Err e → ParsesUnsigned 32 10 part r → (ids : List ℕ) → AreIds ids → word ≡ numbers_text ids → ⊥
  not_read e r is parses ids are same = let p = part_is ids are same in let read = sym is ∙ number_read p.0 part r p.2 p.1 parses in absurd cc

  pub one_more : {E : Type 0} (n : ℕ) (r : Result ℕ E) → r ≡ Ok n → ParsesUnsigned 32 10 part r → Parted word (numbers ++ n ∷ []) left
  one_more n r is parses ids are same = by (before ids are same).0 (before ids are same).1 (before ids are same).2 (before ids are same).3
    where
      by : (rest : List ℕ) → ids ≡ numbers ++ rest → AllByRecursion (λ id. id < 2 ^ 32) rest → part ∷ left ≡ map decimal rest
          → (rest : List ℕ) × (ids ≡ numbers ++ n ∷ [] ++ rest) × AllByRecursion (λ id. id < 2 ^ 32) rest × (left ≡ map decimal rest)
      by [] whole small parts = absurd (let e = parts in cc)
      by (m ∷ ms) whole small parts =
          let read : r ≡ Ok m = number_read m part r small.0 (ap (λ (xs : List (List ℕ)). get_or xs 0 []) parts) parses in
          let one : n ≡ m = (let e = sym is ∙ read in cc) in
          (ms, whole ∙ ap (λ k. numbers ++ k ∷ ms) (sym one) ∙ sym (append_assoc numbers (n ∷ []) ms), small.1, ap (λ (xs : List (List ℕ)). drop 1 xs) parts)

-- none is left
pub all_read : (word numbers ids : List ℕ) → Parted word numbers [] → AreIds ids → word ≡ numbers_text ids → numbers ≡ ids
all_read word numbers ids parted are same = by (parted ids are same).0 (parted ids are same).1 (parted ids are same).3
  where
    by : (rest : List ℕ) → ids ≡ numbers ++ rest → [] ≡ map decimal rest → numbers ≡ ids
    by [] whole none = sym (whole ∙ append-nil numbers)
    by (n ∷ ns) whole none = absurd (let e = none in cc)
