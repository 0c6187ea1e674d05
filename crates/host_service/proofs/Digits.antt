-- Numbers before a line.
use Rattle.std.proofs.Common.{◌≡◌, ◌≢◌, ◌⊎◌, ◌∙◌, ℕ, suc, ◌<◌, ◌≤◌, ◌^◌, eqb-true, eq-eqb, List, [], ◌∷◌, ◌++◌, length}
use Rattle.std.proofs.Common.{length-append, take, take_all, get_or, Option, Some, None, inl, inr, refl, sym, ap, subst}
use Rattle.std.proofs.Common.{arith, append_assoc}
use Rattle.std.specs.Prelude.{codes, decimal}
use Rattle.std.specs.Str.Parse.{AllDigits}
use Rattle.std.proofs.lemmas.Bool.{cases_lt}
use Rattle.std.proofs.lemmas.Fmt.{decimal_injective, digits_decimal}
use Rattle.std.proofs.lemmas.List.{get_or_append_left, get_or-append-add, take-append-le}
use Rattle.std.proofs.lemmas.Str.Parse.{not_in_digits, numerals_by_value, tells_digits}
use Rattle.memchr.specs.Find.{IsFirstByte, is_byte}
use Rattle.host_service.specs.Numbers.{HasNoNumber, IsNumbered, number_text}
use Rattle.host_service.specs.declared.number.EpochNumber.{EpochNumber}

-- a front lacks a byte
abbrev Lacks : ℕ → List ℕ → Type 0
Lacks c front = (i : ℕ) → i < length front → get_or front i 0 ≢ c

-- no digit of a number is a byte below those of digits
pub no_digit : (n end : ℕ) → n < 2 ^ 64 → end < 48 → Lacks end (decimal n)
no_digit n end fits low i within =
    let model = numerals_by_value (AllDigits 10) tells_digits in
    not_in_digits model (decimal n) end (digits_decimal model n fits) (λ range. omega (arith, range.0, low)) i within

at_front : (front rest : List ℕ) (c : ℕ) → get_or (front ++ c ∷ rest) (length front) 0 ≡ c
at_front front rest c = ap (λ i. get_or (front ++ c ∷ rest) i 0) (omega arith) ∙ get_or-append-add front (c ∷ rest) 0 0

-- the byte behind a front that lacks it is the first such one
pub found_at : (front rest : List ℕ) (c : ℕ) (r : Option ℕ) → Lacks c front → IsFirstByte (is_byte c) (front ++ c ∷ rest) r → r ≡ Some (length front)
found_at front rest c None lacks nowhere =
    absurd (nowhere (length front) (omega arith) (omega (arith, length-append front (c ∷ rest))) (eq-eqb (get_or (front ++ c ∷ rest) (length front) 0) c (at_front front rest c)))
found_at front rest c (Some k) lacks (first, passes) =
    ap Some (by (cases_lt k (length front)) (cases_lt (length front) k))
  where
    here : get_or (front ++ c ∷ rest) k 0 ≡ c
    here = eqb-true (get_or (front ++ c ∷ rest) k 0) c passes

    by : (k < length front) ⊎ (length front ≤ k) → (length front < k) ⊎ (k ≤ length front) → k ≡ length front
    by (inl less) other = absurd (lacks k less (sym (get_or_append_left front (c ∷ rest) 0 k less) ∙ here))
    by (inr more) (inl beyond) = absurd (first.before (length front) (omega arith) beyond (eq-eqb (get_or (front ++ c ∷ rest) (length front) 0) c (at_front front rest c)))
    by (inr more) (inr less) = omega (arith, more, less)

take_front : (front rest : List ℕ) → take (length front) (front ++ rest) ≡ front
take_front front rest = take-append-le (length front) front rest (omega arith) ∙ take_all (length front) front (omega arith)

-- what lacks a byte, and that byte, are found again
pub found_digits : (line : List ℕ) (end n : ℕ) (rest : List ℕ) (r : Option ℕ) → end < 48 → n < 2 ^ 64 → line ≡ decimal n ++ end ∷ rest → IsFirstByte (is_byte end) line r
    → (r ≡ Some (length (decimal n))) × (take (length (decimal n)) line ≡ decimal n)
found_digits line end n rest r low fits is first = (
  found_at (decimal n) rest end r (no_digit n end fits low) (subst (λ l. IsFirstByte (is_byte end) l r) is first),
  ap (take (length (decimal n))) is ∙ take_front (decimal n) (end ∷ rest),
)

-- two fronts that lack a byte before it are one
pub one_front : (c : ℕ) (front other rest more : List ℕ) → Lacks c front → Lacks c other → front ++ c ∷ rest ≡ other ++ c ∷ more → (front ≡ other) × (rest ≡ more)
one_front c [] [] rest more lacks none is = (refl, cc (is))
one_front c [] (y ∷ other) rest more lacks none is = absurd (none 0 (omega arith) (sym (cc (is))))
one_front c (x ∷ front) [] rest more lacks none is = absurd (lacks 0 (omega arith) (cc (is)))
one_front c (x ∷ front) (y ∷ other) rest more lacks none is =
    let tail : front ++ c ∷ rest ≡ other ++ c ∷ more = cc (is) in
    let head : x ≡ y = cc (is) in
    let same = one_front c front other rest more (λ i within. lacks (suc i) (omega (arith, within))) (λ i within. none (suc i) (omega (arith, within))) tail in
    (cc (head, same.0), same.1)

-- a number before a line, as its two parts
pub parts : (line rest : List ℕ) (n : EpochNumber) → IsNumbered line n rest → line ≡ decimal n.epoch ++ 47 ∷ (decimal n.places ++ 32 ∷ rest)
parts line rest n numbered =
    numbered.is ∙ append_assoc (decimal n.epoch) (codes "/" ++ (decimal n.places ++ codes " ")) rest
    ∙ ap (λ (l : List ℕ). decimal n.epoch ++ 47 ∷ l) (append_assoc (decimal n.places) (codes " ") rest)

-- and back
pub joined : (line rest middle : List ℕ) (n : EpochNumber) → line ≡ decimal n.epoch ++ 47 ∷ middle → middle ≡ decimal n.places ++ 32 ∷ rest → n.epoch < 2 ^ 64 → n.places < 2 ^ 64 → IsNumbered line n rest
joined line rest middle n is then epoch places = record {
  is = is ∙ ap (λ (l : List ℕ). decimal n.epoch ++ 47 ∷ l) then ∙ sym (parts (number_text n ++ rest) rest n (record { is = refl; epoch = epoch; places = places }));
  epoch = epoch;
  places = places;
}

pub one_numbered : (line : List ℕ) (n m : EpochNumber) (rest more : List ℕ) → IsNumbered line n rest → IsNumbered line m more → (n ≡ m) × (rest ≡ more)
one_numbered line n m rest more a b =
    let first = one_front 47 (decimal n.epoch) (decimal m.epoch) (decimal n.places ++ 32 ∷ rest) (decimal m.places ++ 32 ∷ more)
    (no_digit n.epoch 47 a.epoch (omega arith)) (no_digit m.epoch 47 b.epoch (omega arith)) (sym (parts line rest n a) ∙ parts line more m b) in
    let second = one_front 32 (decimal n.places) (decimal m.places) rest more (no_digit n.places 32 a.places (omega arith)) (no_digit m.places 32 b.places (omega arith)) first.1 in
    let epoch : n.epoch ≡ m.epoch = decimal_injective n.epoch m.epoch a.epoch b.epoch first.0 in
    let places : n.places ≡ m.places = decimal_injective n.places m.places a.places b.places second.0 in
    (ap (λ (e : ℕ). record n { epoch = e }) epoch ∙ ap (λ (p : ℕ). record m { places = p }) places, second.1)

-- a line whose first part is read, and whose second is none, has no number
pub no_second : (line middle : List ℕ) (e : ℕ) → e < 2 ^ 64 → line ≡ decimal e ++ 47 ∷ middle → ((p : ℕ) (rest : List ℕ) → p < 2 ^ 64 → middle ≢ decimal p ++ 32 ∷ rest) → HasNoNumber line
no_second line middle e fits is none n rest numbered =
    let first = one_front 47 (decimal e) (decimal n.epoch) middle (decimal n.places ++ 32 ∷ rest) (no_digit e 47 fits (omega arith)) (no_digit n.epoch 47 numbered.epoch (omega arith))
    (sym is ∙ parts line rest n numbered) in
    none n.places rest numbered.places first.1
