-- What kept intervals have at a minislot.
use Rattle.std.proofs.Common.{◌≡◌, ℕ, true, false, List, [], ◌∷◌, ◌++◌, map, Option, Some, None, refl, sym, ◌∙◌, arith}
use Rattle.std.proofs.Common.{◌⊎◌, inl, inr, ◌↔◌}
use Rattle.std.specs.List.{list_any}
use Rattle.std.proofs.lemmas.Bool.{and_parts, or_cases, or_left, or_right, and_from, eq-eqb}
use Rattle.modem.proofs.Parts.{no_true}
use Rattle.modem.proofs.Tests.{at_tells, at_from}
use Rattle.modem.specs.declared.kept.KeptInterval.{KeptInterval}
use Rattle.modem.specs.State.{Kept, IsAt, HasAt}
use Rattle.modem.specs.KeptIntervals.{kept_interval, covers, is_at}
use Rattle.modem.specs.Ticks.{Counts, IsNotAfter}

-- what joined lists have at a minislot, one of them has
pub HasAt-append : (xs ys : List Kept) (ch m sid iuc : ℕ) → HasAt (xs ++ ys) ch m sid iuc ↔ (HasAt xs ch m sid iuc ⊎ HasAt ys ch m sid iuc)
HasAt-append [] ys ch m sid iuc = (inr, λ h. elim h [ inl n ↦ absurd n | inr y ↦ y ])
HasAt-append (x ∷ xs) ys ch m sid iuc =
    let more = HasAt-append xs ys ch m sid iuc in (
      λ h. elim h [ inl here ↦ inl (inl here) | inr there ↦ elim (more.0 there) [ inl left ↦ inl (inr left) | inr right ↦ inr right ] ],
      λ h. elim h [ inl left ↦ elim left [ inl here ↦ inl here | inr there ↦ inr (more.1 (inl there)) ] | inr right ↦ inr (more.1 (inr right)) ],
    )

-- an interval is at a minislot where the test says so
pub IsAt-kept : (k : Kept) (ch m sid iuc : ℕ) → IsAt k ch m sid iuc ↔ (is_at ch m sid iuc k ≡ true)
IsAt-kept k ch m sid iuc = (
  λ h. at_from k.channel ch k.sid sid k.iuc iuc k.start k.«end» m h.same_channel h.same_sid h.same_iuc h.from h.to,
  λ h. let (channel, of_sid, of_iuc, from, to) = at_tells k.channel ch k.sid sid k.iuc iuc k.start k.«end» m h in record { same_channel = channel; same_sid = of_sid; same_iuc = of_iuc; from = from; to = to },
)

pub HasAt-kept : (ks : List KeptInterval) (ch m sid iuc : ℕ) → (list_any (λ k. is_at ch m sid iuc (kept_interval k)) ks ≡ true) ↔ HasAt (map kept_interval ks) ch m sid iuc
HasAt-kept [] ch m sid iuc = (λ h. no_true h, λ n. absurd n)
HasAt-kept (k ∷ ks) ch m sid iuc =
    let rest = HasAt-kept ks ch m sid iuc in
    let this = IsAt-kept (kept_interval k) ch m sid iuc in (
      λ h. elim (or_cases _ _ h) [ inl a ↦ inl (this.1 a) | inr b ↦ inr (rest.0 b) ],
      λ h. elim h [ inl a ↦ or_left _ _ (this.0 a) | inr b ↦ or_right _ _ (rest.1 b) ],
    )

-- with one more interval
HasAt-push : (ks : List Kept) (c : Kept) (ch m sid iuc : ℕ) → HasAt (ks ++ c ∷ []) ch m sid iuc ↔ (HasAt ks ch m sid iuc ⊎ IsAt c ch m sid iuc)
HasAt-push ks c ch m sid iuc =
    let joined = HasAt-append ks (c ∷ []) ch m sid iuc in (
      λ h. elim (joined.0 h) [ inl a ↦ inl a | inr b ↦ elim b [ inl x ↦ inr x | inr n ↦ absurd n ] ],
      λ h. joined.1 (elim h as (λ _. HasAt ks ch m sid iuc ⊎ HasAt (c ∷ []) ch m sid iuc) [ inl a ↦ inl a | inr b ↦ inr (inl b) ]),
    )

-- the order is one
not_after : (p q : ℕ × ℕ) (sid iuc : ℕ) → IsNotAfter p q.0 q.1 → IsNotAfter q sid iuc → IsNotAfter p sid iuc
not_after p q sid iuc (inl a) (inl b) = inl (omega arith)
not_after p q sid iuc (inl a) (inr b) = inl (omega (arith, b.0))
not_after p q sid iuc (inr a) (inl b) = inl (omega (arith, a.0))
not_after p q sid iuc (inr a) (inr b) = inr (a.0 ∙ b.0, omega (arith, a.1, b.1))

-- with one more interval what counted counts, or that one
module _ (ks : List Kept) (c : Kept) (ch m : ℕ) where
  pub counts_skipped : (first : Option (ℕ × ℕ)) → covers ch m c ≡ false → Counts ks ch m first → Counts (ks ++ c ∷ []) ch m first
  counts_skipped first skips h = go first h
    where
      old : (sid iuc : ℕ) → HasAt (ks ++ c ∷ []) ch m sid iuc → HasAt ks ch m sid iuc
      old sid iuc there = elim ((HasAt-push ks c ch m sid iuc).0 there) [ inl a ↦ a | inr x ↦ no_true (sym skips ∙ (and_parts _ _ ((IsAt-kept c ch m sid iuc).0 x)).0) ]

      go : (first : Option (ℕ × ℕ)) → Counts ks ch m first → Counts (ks ++ c ∷ []) ch m first
      go None h = λ sid iuc there. h sid iuc (old sid iuc there)
      go (Some best) h = ((HasAt-push ks c ch m best.0 best.1).1 (inl h.0), λ sid iuc there. h.1 sid iuc (old sid iuc there))

  this : covers ch m c ≡ true → HasAt (ks ++ c ∷ []) ch m c.sid c.iuc
  this counts =
      (HasAt-push ks c ch m c.sid c.iuc).1 (inr ((IsAt-kept c ch m c.sid c.iuc).1 (and_from _ _ counts (and_from _ _ (eq-eqb c.sid c.sid refl) (eq-eqb c.iuc c.iuc refl)))))

  pub counts_alone : covers ch m c ≡ true → Counts ks ch m None → Counts (ks ++ c ∷ []) ch m (Some (c.sid, c.iuc))
  counts_alone counts h =
      (this counts, λ sid iuc there. elim ((HasAt-push ks c ch m sid iuc).0 there) [ inl a ↦ absurd (h sid iuc a) | inr x ↦ inr (x.same_sid, omega (arith, x.same_iuc)) ])

  pub counts_first : (best : ℕ × ℕ) → covers ch m c ≡ true → IsNotAfter (c.sid, c.iuc) best.0 best.1 → Counts ks ch m (Some best) → Counts (ks ++ c ∷ []) ch m (Some (c.sid, c.iuc))
  counts_first best counts first h =
      (this counts, λ sid iuc there. elim ((HasAt-push ks c ch m sid iuc).0 there) [ inl a ↦ not_after (c.sid, c.iuc) best sid iuc first (h.1 sid iuc a) | inr x ↦ inr (x.same_sid, omega (arith, x.same_iuc)) ])

  pub counts_later : (best : ℕ × ℕ) → IsNotAfter best c.sid c.iuc → Counts ks ch m (Some best) → Counts (ks ++ c ∷ []) ch m (Some best)
  counts_later best later h = (
    (HasAt-push ks c ch m best.0 best.1).1 (inl h.0),
    λ sid iuc there. elim ((HasAt-push ks c ch m sid iuc).0 there) [ inl a ↦ h.1 sid iuc a | inr x ↦ rw (← x.same_sid, ← x.same_iuc) later ],
  )

-- lists that have the same at minislots have the same that counts
pub Counts-same : (ks more : List Kept) (ch m x : ℕ) (counted : Option (ℕ × ℕ)) → ((sid iuc : ℕ) → HasAt more ch x sid iuc ↔ HasAt ks ch m sid iuc) → Counts ks ch m counted → Counts more ch x counted
Counts-same ks more ch m x None same h = λ sid iuc there. h sid iuc ((same sid iuc).0 there)
Counts-same ks more ch m x (Some p) same h = ((same p.0 p.1).1 h.0, λ sid iuc there. h.1 sid iuc ((same sid iuc).0 there))
