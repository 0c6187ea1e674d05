-- What is held is one content, and whether a content is another can be told.
use Rattle.std.proofs.Common.{◌≡◌, ◌⊎◌, inl, inr, ℕ, List, refl, sym, ap, ◌∙◌, arith}
use Rattle.std.proofs.Math.Logic.{∥∥₁_elim}
use Rattle.std.proofs.Math.Nat.{ℕ_set}
use Rattle.std.proofs.lemmas.Bool.{cases_order}
use mathlib.Core.HLevel.{Discrete, ×_discrete}
use mathlib.Core.List.{List-discrete, is_set as List_set}
use Rattle.acceptor.specs.Content.{Content}
use Rattle.acceptor.specs.Found.{Findable, Holds}
use Rattle.ballots.specs.declared.letters.Cast.{Cast}

Content_set : IsSet Content
Content_set = hlevel (ℕ_set, List_set)

pub Holds_prop : (found : Findable) (c : Content) → IsProp (Holds found c)
Holds_prop found c = hlevel Content_set

pub holds_once : (found : Findable) (a b : Content) → Holds found a → Holds found b → a ≡ b
holds_once found a b one other = ∥∥₁_elim one.0 (Content_set a b) (λ there. other.1 a there)

-- what can be told of a picture can be told of what it pictures
pictured : {A B : Type 0} (to : A → B) (from : B → A) → ((a : A) → from (to a) ≡ a) → Discrete B → Discrete A
pictured to from back tells x y = elim (tells (to x) (to y)) [
  | yes same ↦ yes (sym (back x) ∙ ap from same ∙ back y)
  | no apart ↦ no (λ same. apart (ap to same))
]

number_discrete : Discrete ℕ
number_discrete a b = elim (cases_order a b) [
  | inl same ↦ yes same
  | inr (inl less) ↦ no (λ same. omega (arith, less, same))
  | inr (inr more) ↦ no (λ same. omega (arith, more, same))
]

abbrev Bytes : Type 0
Bytes = List ℕ

Bytes_discrete : Discrete Bytes
Bytes_discrete = List-discrete number_discrete

Cast_discrete : Discrete Cast
Cast_discrete = pictured (λ (c : Cast). (c.ballot, c.value)) (λ (p : ℕ × Bytes). record { ballot = p.0; value = p.1 }) (λ c. refl) (×_discrete number_discrete Bytes_discrete)

Content_discrete : Discrete Content
Content_discrete =
    pictured (λ (c : Content). ((c.tried, c.row), (c.votes, c.learned)))
    (λ (p : (ℕ × ℕ) × (List (ℕ × Cast) × List (ℕ × Bytes))). record { tried = p.0.0; row = p.0.1; votes = p.1.0; learned = p.1.1 }) (λ c. refl)
    (×_discrete (×_discrete number_discrete number_discrete) (×_discrete (List-discrete (×_discrete number_discrete Cast_discrete)) (List-discrete (×_discrete number_discrete Bytes_discrete))))

-- so one of two is told
pub told_apart : (a b d : Content) → ∥ ((d ≡ a) ⊎ (d ≡ b)) ∥₁ → (d ≡ a) ⊎ (d ≡ b)
told_apart a b d either = elim (Content_discrete d a) [
  | yes same ↦ inl same
  | no apart ↦ inr (∥∥₁_elim either (Content_set d b) (λ one. the_other apart one))
]
  where
    the_other : ((d ≡ a) → ⊥) → (d ≡ a) ⊎ (d ≡ b) → d ≡ b
    the_other apart (inl same) = absurd (apart same)
    the_other apart (inr other) = other
