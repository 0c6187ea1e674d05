-- Letters of a list in two parts, of which the second is looked through first.
use Rattle.std.proofs.Common.{◌≡◌, ◌∙◌, ◌↔◌, ℕ, ◌<◌, ◌≤◌, List, ◌++◌, take, drop, sym, ap, subst, Contains, ◌⊎◌, ⊎_elim}
use Rattle.std.proofs.Common.{Option, None, Some, arith}
use Rattle.std.specs.Option.{IfSome}
use Rattle.std.proofs.lemmas.List.{take-append-drop}
use Rattle.std.proofs.lemmas.List.Elements.{Contains-append_left, Contains-append_right, Contains-append_cases}
use Rattle.node_worker.specs.Legal.{letters_of}
use Rattle.node_worker.specs.declared.entry.Done.{Done}
use Rattle.node_worker.proofs.Comparisons.{letters_of-append}

-- a list is its two parts
pub in_parts : {X : Type 0} (n : ℕ) (xs front back : List X) → front ≡ take n xs → back ≡ drop n xs → front ++ back ≡ xs
in_parts n xs front back is its = ap (λ ys. ys ++ back) is ∙ (ap (λ ys. take n xs ++ ys) its ∙ take-append-drop n xs)

-- what is in the whole is in one of them
pub in_two : {X : Type 0} (front back whole : List X) (x : X) → front ++ back ≡ whole → Contains whole x ↔ (Contains front x ⊎ Contains back x)
in_two front back whole x is = (
  λ there. Contains-append_cases front back x (subst (λ ys. Contains ys x) (sym is) there),
  λ one. subst (λ ys. Contains ys x) is (⊎_elim (Contains-append_left front back x) (Contains-append_right front back x) one),
)

-- the letters of two parts of the records are those of all
pub letters_in_parts : (n : ℕ) (records front back : List Done) → front ≡ take n records → back ≡ drop n records → letters_of front ++ letters_of back ≡ letters_of records
letters_in_parts n records front back is its = sym (letters_of-append front back) ∙ ap letters_of (in_parts n records front back is its)

-- what is within a part is within the whole
pub within_more : {X : Type 0} (f : X → ℕ) (o : Option X) (n m : ℕ) → n ≤ m → IfSome o (λ x. f x < n) → IfSome o (λ x. f x < m)
within_more f None n m longer within = within
within_more f (Some x) n m longer within = omega arith
