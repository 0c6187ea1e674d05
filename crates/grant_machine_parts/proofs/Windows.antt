-- Grants and polls begin within their windows, one after another.
use Rattle.std.proofs.Common.{◌≡◌, ℕ, zero, suc, ◌+◌, ◌≤◌, Bool, true, false, cond, max, List, [], ◌∷◌, ◌++◌, length}
use Rattle.std.proofs.Common.{Option, Some, None, refl, sym, ap, ◌∙◌, arith, ltb, leb, append_assoc}
use Rattle.std.specs.List.{find, list_all, range_with_len, AllZip}
use Rattle.std.proofs.lemmas.Bool.{leb-true, and_parts}
use Rattle.std.proofs.lemmas.List.{append-nil}
use Rattle.flow_state.proofs.Callers.{find_passes}
use Rattle.minislot_time.specs.Extent.{Extent}
use Rattle.grant_machine_parts.specs.Placing.{Placement, is_free, fits_at, first_fit, most_placements}
use Rattle.grant_machine_parts.specs.Cutting.{Periodic, due_at, end_of, Missed, Placed, Kept, verdict, verdict_on}
use Rattle.grant_machine_parts.specs.Cutting.{placement_at, Ran, run_due_times}

-- n free minislots of a MAP begin at offset x, from lo to hi, and end by the last one
pub record FitsAt (span : Extent) (ps : List Placement) (n lo hi last x : ℕ) : Type 0 where
  pub not_early : lo ≤ span.start + x
  pub not_late : span.start + x ≤ hi
  pub in_lease : span.start + x + n ≤ last + 1
  pub within : x + n ≤ span.len
  pub free : list_all (is_free ps) (range_with_len x n) ≡ true

pub fits_tells : (span : Extent) (ps : List Placement) (n lo hi last x : ℕ) → fits_at span ps n lo hi last x ≡ true → FitsAt span ps n lo hi last x
fits_tells span ps n lo hi last x e =
    let fifth = and_parts _ _ e in
    let fourth = and_parts _ _ fifth.0 in
    let third = and_parts _ _ fourth.0 in
    let first = and_parts _ _ third.0 in
    record { not_early = leb-true _ _ first.0; not_late = leb-true _ _ first.1; in_lease = leb-true _ _ third.1; within = leb-true _ _ fourth.1; free = fifth.1 }

-- a first fit fits, and comes only below sixty placements
pub first_fit_tells : (span : Extent) (ps : List Placement) (n lo hi last x : ℕ) → first_fit span ps n lo hi last ≡ Some x → FitsAt span ps n lo hi last x
first_fit_tells span ps n lo hi last x e =
    elim (ltb (length ps) most_placements) as (λ b. cond b (find (fits_at span ps n lo hi last) (range_with_len 0 span.len)) None ≡ Some x → FitsAt span ps n lo hi last x) [
      | true ↦ λ f. fits_tells span ps n lo hi last x (find_passes (fits_at span ps n lo hi last) (range_with_len 0 span.len) x f)
      | false ↦ λ f. absurd cc
    ] e

pub placed_is : (span : Extent) (o : Option ℕ) (last x : ℕ) → verdict_on span o last ≡ Placed x → o ≡ Some x
placed_is span (Some y) last x e = ap (λ (v : ℕ). Some v) (same y x e)
  where
    same : (y x : ℕ) → Placed y ≡ Placed x → y ≡ x
    same y x e = cc
placed_is span None last x e = absurd (by (leb (end_of span) last) e)
  where
    by : (b : Bool) → cond b Kept Missed ≡ Placed x → ⊥
    by true f = cc
    by false f = cc

-- a due time that is placed is placed within its window
pub placed_tells : (span : Extent) (ps : List Placement) (p : Periodic) (i x : ℕ) → verdict span ps p i ≡ Placed x → FitsAt span ps p.size (max (due_at p i) span.start) (due_at p i + p.jitter) p.last x
placed_tells span ps p i x e =
    elim (ltb (due_at p i + p.jitter) span.start) as (λ b. cond b Missed (verdict_on span (first_fit span ps p.size (max (due_at p i) span.start) (due_at p i + p.jitter) p.last) (due_at p i + p.jitter)) ≡ Placed x → FitsAt span ps p.size (max (due_at p i) span.start) (due_at p i + p.jitter) p.last x) [
      | true ↦ λ f. absurd cc
      | false ↦ λ f. first_fit_tells span ps p.size _ _ _ x (placed_is span _ _ x f)
    ] e

-- the placement of due time i: whole, in the MAP, within its window, and up to the last minislot of its lease
pub record InWindow (span : Extent) (p : Periodic) (q : Placement) (i : ℕ) : Type 0 where
  pub offset : ℕ
  pub is : q ≡ placement_at p i offset
  pub not_early : due_at p i ≤ span.start + offset
  pub not_late : span.start + offset ≤ due_at p i + p.jitter
  pub in_lease : span.start + offset + p.size ≤ p.last + 1
  pub within : offset + p.size ≤ span.len

-- numbers from first on, each above the one before, below end
abbrev pub Rising : ℕ → List ℕ → ℕ → Type 0
Rising first [] end = first ≤ end
Rising first (i ∷ is) end = (first ≤ i) × Rising (i + 1) is end

pub rising_later : (first second : ℕ) (is : List ℕ) (end : ℕ) → first ≤ second → Rising second is end → Rising first is end
rising_later first second [] end le r = omega arith
rising_later first second (i ∷ is) end le r = (omega (arith, r.0), r.1)

-- what a flow's due times add to the placements
pub record Adds (span : Extent) (p : Periodic) (i : ℕ) (ps : List Placement) (ran : Ran) : Type 0 where
  pub more : List Placement
  pub numbers : List ℕ
  pub added : ran.placements ≡ ps ++ more
  pub each : AllZip (InWindow span p) more numbers
  pub rising : Rising i numbers ran.index

adds_first : (span : Extent) (p : Periodic) (i x : ℕ) (ps : List Placement) (ran : Ran) → FitsAt span ps p.size (max (due_at p i) span.start) (due_at p i + p.jitter) p.last x
    → Adds span p (i + 1) (ps ++ placement_at p i x ∷ []) ran → Adds span p i ps ran
adds_first span p i x ps ran fits a = record {
  more = placement_at p i x ∷ a.more;
  numbers = i ∷ a.numbers;
  added = a.added ∙ append_assoc ps (placement_at p i x ∷ []) a.more;
  each = (let early = fits.not_early in record { offset = x; is = refl; not_early = omega arith; not_late = fits.not_late; in_lease = fits.in_lease; within = fits.within }, a.each);
  rising = (omega arith, a.rising);
}

-- the due times of a flow, placed or missed, one after another
pub run_adds : (span : Extent) (p : Periodic) (k i : ℕ) (ps : List Placement) → Adds span p i ps (run_due_times span p k i ps)
run_adds span p zero i ps = record { more = []; numbers = []; added = sym (append-nil ps); each = tt; rising = omega arith }
run_adds span p (suc k) i ps =
    let later = run_adds span p k (i + 1) ps in
    elim (verdict span ps p i) as (λ v. verdict span ps p i ≡ v → Adds span p i ps (elim v [ Missed ↦ run_due_times span p k (i + 1) ps | Placed x ↦ run_due_times span p k (i + 1) (ps ++ placement_at p i x ∷ []) | Kept ↦ record { placements = ps; index = i } ])) [
      | Missed ↦ λ e. record { more = later.more; numbers = later.numbers; added = later.added; each = later.each; rising = rising_later i (i + 1) later.numbers _ (omega arith) later.rising }
      | Placed x ↦ λ e. adds_first span p i x ps _ (placed_tells span ps p i x e) (run_adds span p k (i + 1) (ps ++ placement_at p i x ∷ []))
      | Kept ↦ λ e. record { more = []; numbers = []; added = sym (append-nil ps); each = tt; rising = omega arith }
    ] refl
