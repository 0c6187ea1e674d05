-- What is kept of due times by SID, and its blocks.
use Rattle.std.proofs.Common.{◌≡◌, ◌≢◌, ℕ, ◌+◌, ◌*◌, ◌/◌, ◌<◌, ◌≤◌, List, length, get_or, max, set, arith, true, false}
use Rattle.std.proofs.Common.{ltb, eqb, refl, length-set, get_or-set_same, get_or-set_other}
use Rattle.std.proofs.lemmas.Bool.{eqb-true}
use Rattle.std.proofs.lemmas.Option.{slice_get_read, get_or_from_slice_get}
use Rattle.flow_state.specs.declared.dues.Dues.{Dues}
use Rattle.flow_state.specs.StoredDues.{IsBefore, NoneDue, NoneBefore}

-- one block more, which begins late or of which no time comes before the end
pub late_block : (ds : Dues) (from block end : ℕ) → NoneDue ds from (64 * block) end → end ≤ get_or ds.least.items block 0 → NoneDue ds from (64 * (block + 1)) end
late_block ds from block end none late sid due ge lt is =
    elim (ltb sid (64 * block)) as (λ b. ltb sid (64 * block) ≡ b → end ≤ due) [
      | true ↦ λ f. none sid due ge (grind (arith, f)) is
      | false ↦ λ f.
          let within : 64 * block ≤ sid = grind (arith, f) in
          let here : sid / 64 ≡ block = omega arith in
          let least : get_or ds.least.items block 0 ≤ due = (λ (n : ℕ) (e : sid / 64 ≡ n). at n e is.1) block here in
          omega arith
    ] refl
  where
    at : (n : ℕ) → sid / 64 ≡ n → IsBefore ds.least.items (sid / 64) due → get_or ds.least.items n 0 ≤ due
    at n e h = rw (← e) h.1

-- up to a place in a block
pub none_until : (ds : Dues) (from block to end : ℕ) → NoneDue ds from (64 * block) end → NoneBefore ds.times.items (max from (block * 64)) to end → NoneDue ds from to end
none_until ds from block to end none times sid due ge lt is =
    elim (ltb sid (64 * block)) as (λ b. ltb sid (64 * block) ≡ b → end ≤ due) [
      | true ↦ λ f. none sid due ge (grind (arith, f)) is
      | false ↦ λ f.
          let within : 64 * block ≤ sid = grind (arith, f) in
          let later : end ≤ get_or ds.times.items sid 0 = times sid (omega arith) lt is.0.0 in
          let kept : get_or ds.times.items sid 0 ≤ due = is.0.1 in
          omega arith
    ] refl

-- what was read at a place
pub read_at : (ns : List ℕ) (place x : ℕ) → place < length ns → x ≡ get_or ns place x → get_or ns place 0 ≡ x
read_at ns place x lt e = get_or_from_slice_get ns place x 0 (slice_get_read ns (length ns) place x refl lt e)

-- a block's time, brought up to the least that is due there
pub settled : (times least : List ℕ) (block most sid due : ℕ) → ((place : ℕ) → 64 * block ≤ place → place < 64 * block + 64 → place < length times → most ≤ get_or times place 0)
    → IsBefore times sid due → IsBefore least (sid / 64) due → IsBefore (set least block most) (sid / 64) due
settled times least block most sid due none is old =
    let long : length (set least block most) ≡ length least = length-set least block most in
    elim (eqb (sid / 64) block) as (λ b. eqb (sid / 64) block ≡ b → IsBefore (set least block most) (sid / 64) due) [
      | true ↦ λ f.
          let here : sid / 64 ≡ block = eqb-true (sid / 64) block f in
          let lt : block < length least = omega (arith, old.0) in
          let le : most ≤ due = omega (arith, is.1, none sid (omega arith) (omega arith) is.0) in
          (omega (arith, old.0), rw here (rw (get_or-set_same least block most 0 lt) le))
      | false ↦ λ f. let apart : sid / 64 ≢ block = grind (arith, f) in (omega (arith, old.0), rw (get_or-set_other least block (sid / 64) most 0 apart) old.1)
    ] refl
