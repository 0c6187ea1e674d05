-- Leases in blocks: the first one that is over, and the bounds with one more lease.
use Rattle.std.proofs.Common.{◌≡◌, ◌≢◌, ℕ, ◌+◌, ◌*◌, ◌<◌, ◌≤◌, true, false, List, length, slice_get, Some, None, refl}
use Rattle.std.proofs.Common.{sym, ap, subst, ◌∙◌, ◌/◌, eqb, ltb, arith}
use Rattle.std.specs.List.{find}
use Rattle.std.proofs.lemmas.Bool.{eqb-true}
use Rattle.std.proofs.lemmas.Option.{slice_get_within, same_Some}
use Rattle.flow_state.specs.Rows.{Lease}
use Rattle.flow_state.specs.StoredLeases.{IsBound, AreBounds, IsFirstOver, AreBlocks, put_at}
use Rattle.flow_state.proofs.Puts.{find_placed, find_nowhere, at_put, other_put, length_within, length_behind}

-- no lease at a place below this ends before the start
abbrev pub NoneBelow : List Lease → (places start : ℕ) → Type 0
NoneBelow ls places start = (p : ℕ) (l : Lease) → p < places → slice_get ls p ≡ Some l → start ≤ l.last

not_over : (start : ℕ) (l : Lease) → start ≤ l.last → ltb l.last start ≡ false
not_over start l le = grind (arith, le)

-- one block more
pub none_more : (ls : List Lease) (block start : ℕ) → NoneBelow ls (128 * block) start → IsBound ls block start → NoneBelow ls (128 * (block + 1)) start
none_more ls block start none bound p l lt e =
    elim (ltb p (128 * block)) as (λ b. ltb p (128 * block) ≡ b → start ≤ l.last) [
      | true ↦ λ f. none p l (grind (arith, f)) e
      | false ↦ λ f. let ge : 128 * block ≤ p = grind (arith, f) in bound p l ge (omega arith) e
    ] refl

-- a bound that doesn't lie before the start
pub bound_from : (ls : List Lease) (block start bound : ℕ) → start ≤ bound → IsBound ls block bound → IsBound ls block start
bound_from ls block start bound le is p l ge lt e = let end = is p l ge lt e in omega arith

-- the first one that is over
pub over_found : (ls : List Lease) (block start : ℕ) (l : Lease) → NoneBelow ls (128 * block) start → IsFirstOver ls block start l → find (λ m. ltb m.last start) ls ≡ Some l
over_found ls block start l none (p, ge, e, over, before) =
    find_placed (λ m. ltb m.last start) ls p l e (grind (arith, over)) (λ q m lt f. not_over start m (
    elim (ltb q (128 * block)) as (λ b. ltb q (128 * block) ≡ b → start ≤ m.last) [
      | true ↦ λ is. none q m (grind (arith, is)) f
      | false ↦ λ is. let from : 128 * block ≤ q = grind (arith, is) in before q m from lt f
    ] refl))

-- none is
pub over_nowhere : (ls : List Lease) (blocks start : ℕ) → length ls ≤ 128 * blocks → NoneBelow ls (128 * blocks) start → find (λ m. ltb m.last start) ls ≡ None
over_nowhere ls blocks start enough none =
    find_nowhere (λ m. ltb m.last start) ls (λ q m e. let within = slice_get_within ls q m e in not_over start m (none q m (omega arith) e))

-- ---- with a lease put at a place

pub bounds_put : (ls : List Lease) (bounds : List ℕ) (place block : ℕ) (l : Lease) (bound : ℕ)
    → place ≤ length ls → block ≤ length bounds → 128 * block ≤ place → place < 128 * block + 128
    → IsBound (put_at ls place l) block bound → AreBounds ls bounds → AreBounds (put_at ls place l) (put_at bounds block bound)
bounds_put ls bounds place block l bound within there from to is old k other e =
    elim (eqb k block) as (λ b. eqb k block ≡ b → IsBound (put_at ls place l) k other) [
      | true ↦ λ f. let same : k ≡ block = eqb-true k block f in
          let value : bound ≡ other = same_Some bound other (sym (at_put bounds block bound there) ∙ sym (ap (slice_get (put_at bounds block bound)) same) ∙ e) in
          rw (same, ← value) is
      | false ↦ λ f. let apart : k ≢ block = grind (arith, f) in
          λ p m ge lt g. old k other (sym (other_put bounds block bound k there apart) ∙ e) p m ge lt (sym (other_put ls place l p within (λ at. apart (omega arith))) ∙ g)
    ] refl

pub blocks_put : (ls : List Lease) (bounds : List ℕ) (place block : ℕ) (l : Lease) (bound : ℕ)
    → place ≤ length ls → 128 * block ≤ place → place < 128 * block + 128
    → AreBlocks (length ls) (length bounds) → (block ≤ length bounds) × AreBlocks (length (put_at ls place l)) (length (put_at bounds block bound))
blocks_put ls bounds place block l bound within from to (enough, few) =
    elim (ltb place (length ls)) as (λ b. ltb place (length ls) ≡ b → (block ≤ length bounds) × AreBlocks (length (put_at ls place l)) (length (put_at bounds block bound))) [
      | true ↦ λ f. let lt : place < length ls = grind (arith, f) in
          let there : block < length bounds = omega arith in
          rw (length_within ls place l lt, length_within bounds block bound there) (omega arith, (enough, few))
      | false ↦ λ f. let ge : length ls ≤ place = grind (arith, f) in
          elim (ltb block (length bounds)) as (λ b. ltb block (length bounds) ≡ b → (block ≤ length bounds) × AreBlocks (length (put_at ls place l)) (length (put_at bounds block bound))) [
            | true ↦ λ g. let there : block < length bounds = grind (arith, g) in
                rw (length_behind ls place l ge, length_within bounds block bound there) (omega arith, (omega arith, omega arith))
            | false ↦ λ g. let behind : length bounds ≤ block = grind (arith, g) in
                rw (length_behind ls place l ge, length_behind bounds block bound behind) (omega arith, (omega arith, omega arith))
          ] refl
    ] refl

-- the bounds with a lease put at a place, and a new bound of its block
pub bounds_after : (ls os : List Lease) (bounds others : List ℕ) (place : ℕ) (l : Lease) (bound : ℕ)
    → os ≡ put_at ls place l → others ≡ put_at bounds (place / 128) bound → place ≤ length ls → IsBound os (place / 128) bound
    → AreBounds ls bounds → AreBlocks (length ls) (length bounds) → AreBounds os others × AreBlocks (length os) (length others)
bounds_after ls os bounds others place l bound put changed within is old blocks =
    let from : 128 * (place / 128) ≤ place = omega arith in
    let to : place < 128 * (place / 128) + 128 = omega arith in
    let all = blocks_put ls bounds place (place / 128) l bound within from to blocks in
    let new : IsBound (put_at ls place l) (place / 128) bound = subst (λ (xs : List Lease). IsBound xs (place / 128) bound) put is in
    rw (put, changed) (bounds_put ls bounds place (place / 128) l bound within all.0 from to new old, all.1)
