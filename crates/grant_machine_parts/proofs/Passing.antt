-- Due times one after another, and those that may be passed over.
use Rattle.std.proofs.Common.{◌≡◌, ℕ, zero, suc, ◌+◌, ◌-◌, ◌*◌, ◌/◌, ◌%◌, ◌<◌, ◌≤◌, Bool, true, false, not, cond, max}
use Rattle.std.proofs.Common.{List, [], ◌∷◌, ◌++◌, length, Some, None, refl, sym, ap, ◌∙◌, arith, ltb, ⊎_elim, add-one}
use Rattle.std.proofs.lemmas.Bool.{lt-ltb, lt-leb, le-leb, cases_lt, le-ltb}
use Rattle.std.proofs.lemmas.Nat.{div-add-mod', div-mul-add, mod_below, mul-le}
use Rattle.std.proofs.lemmas.Grind.{div_ceil_times}
use Rattle.std.specs.Int.{div_ceil}
use Rattle.std.proofs.Math.Nat.{div-eq_of_lt}
use Rattle.minislot_time.specs.Extent.{Extent}
use Rattle.grant_machine_parts.specs.Placing.{Placement, first_fit, most_placements}
use Rattle.grant_machine_parts.specs.Cutting.{Periodic, due_at, due_before, end_of, Verdict, Missed, Placed, Kept}
use Rattle.grant_machine_parts.specs.Cutting.{verdict, verdict_on, unplaced, placement_at, Ran, run_due_times, run_flow}
use Rattle.grant_machine_parts.specs.Filling.{PartMap, goes_on, placements_on}

next_due : (p : Periodic) (i : ℕ) → due_at p (i + 1) ≡ due_at p i + p.interval
next_due p i = grind arith

div_more : (a t : ℕ) → 0 < t → (a + t) / t ≡ a / t + 1
div_more a t pos =
    let split : a / t * t + a % t ≡ a = div-add-mod' a t in
    let more : a + t ≡ (a / t + 1) * t + a % t = omega arith in
    ap (λ n. n / t) more ∙ div-mul-add (a / t + 1) t (a % t) (mod_below a t pos)

-- one due time is before the end, and then those from the next one on
pub due_step : (p : Periodic) (i end : ℕ) → 1 ≤ p.interval → due_at p i < end → due_before p i end ≡ suc (due_before p (i + 1) end)
due_step p i end pos lt =
    let d : ℕ = due_at p i in
    let next : due_at p (i + 1) ≡ d + p.interval = next_due p i in
    ap (λ b. cond b ((end - 1 - d) / p.interval + 1) 0) (lt-ltb d end lt)
    ∙ ⊎_elim
    (λ (more : d + p.interval < end).
    let back : end - 1 - d ≡ end - 1 - (d + p.interval) + p.interval = omega arith in
    ap (λ n. n / p.interval + 1) back
    ∙ ap (λ n. n + 1) (div_more (end - 1 - (d + p.interval)) p.interval pos)
    ∙ add-one _
    ∙ ap (λ b. suc (cond b ((end - 1 - (d + p.interval)) / p.interval + 1) 0)) (sym (lt-ltb (d + p.interval) end more)))
    (λ (last : end ≤ d + p.interval).
    ap (λ n. n + 1) (div-eq_of_lt (let small : end - 1 - d < p.interval = omega arith in small))
    ∙ ap (λ b. suc (cond b ((end - 1 - (d + p.interval)) / p.interval + 1) 0)) (sym (le-ltb (d + p.interval) end last)))
    (cases_lt (d + p.interval) end)
    ∙ ap (λ n. suc (cond (ltb n end) ((end - 1 - n) / p.interval + 1) 0)) (sym next)

-- none is
pub due_none : (p : Periodic) (i end : ℕ) → end ≤ due_at p i → due_before p i end ≡ 0
due_none p i end le = ap (λ b. cond b ((end - 1 - due_at p i) / p.interval + 1) 0) (le-ltb (due_at p i) end le)

pub run_done : (span : Extent) (p : Periodic) (i : ℕ) (ps : List Placement) → end_of span ≤ due_at p i → run_flow span (Some p) i ps ≡ record { placements = ps; index = i }
run_done span p i ps le = ap (λ k. run_due_times span p k i ps) (due_none p i (end_of span) le)

-- a flow that goes on
pub run_on : (span : Extent) (p : Periodic) (i : ℕ) (ps : List Placement) → 1 ≤ p.interval → due_at p i < end_of span → goes_on (verdict span ps p i) ≡ true
    → run_flow span (Some p) i ps ≡ run_flow span (Some p) (i + 1) (placements_on (verdict span ps p i) ps p i)
run_on span p i ps pos lt on = ap (λ k. run_due_times span p k i ps) (due_step p i (end_of span) pos lt) ∙ by (verdict span ps p i) on
  where
    by : (v : Verdict) → goes_on v ≡ true
        → ◌≡◌ {A = Ran} (elim v [ Missed ↦ run_flow span (Some p) (i + 1) ps | Placed x ↦ run_flow span (Some p) (i + 1) (ps ++ placement_at p i x ∷ []) | Kept ↦ record { placements = ps; index = i } ]) (run_flow span (Some p) (i + 1) (placements_on v ps p i))
    by Missed e = refl
    by (Placed x) e = refl
    by Kept e = absurd cc

-- a flow that is kept
pub run_kept : (span : Extent) (p : Periodic) (i : ℕ) (ps : List Placement) → 1 ≤ p.interval → due_at p i < end_of span → goes_on (verdict span ps p i) ≡ false
    → run_flow span (Some p) i ps ≡ record { placements = placements_on (verdict span ps p i) ps p i; index = i }
run_kept span p i ps pos lt off = ap (λ k. run_due_times span p k i ps) (due_step p i (end_of span) pos lt) ∙ by (verdict span ps p i) off
  where
    by : (v : Verdict) → goes_on v ≡ false
        → ◌≡◌ {A = Ran} (elim v [ Missed ↦ run_flow span (Some p) (i + 1) ps | Placed x ↦ run_flow span (Some p) (i + 1) (ps ++ placement_at p i x ∷ []) | Kept ↦ record { placements = ps; index = i } ]) (record { placements = placements_on v ps p i; index = i })
    by Missed e = absurd cc
    by (Placed x) e = absurd cc
    by Kept e = refl

-- a due time that is missed with these placements, and comes before the end
abbrev pub IsPassed : Extent → List Placement → Periodic → ℕ → Type 0
IsPassed span ps p i = (due_at p i < end_of span) × (verdict span ps p i ≡ Missed)

-- missed due times may be passed over
pub passed_run : (span : Extent) (p : Periodic) (ps : List Placement) (k i : ℕ) → 1 ≤ p.interval → ((j : ℕ) → i ≤ j → j < i + k → IsPassed span ps p j) → run_flow span (Some p) i ps ≡ run_flow span (Some p) (i + k) ps
passed_run span p ps zero i pos passed = let same : i ≡ i + 0 = omega arith in ap (λ n. run_flow span (Some p) n ps) same
passed_run span p ps (suc k) i pos passed =
    let here = passed i (omega arith) (omega arith) in
    let same : i + 1 + k ≡ i + suc k = omega arith in
    run_on span p i ps pos here.0 (ap goes_on here.1)
    ∙ ap (λ v. run_flow span (Some p) (i + 1) (placements_on v ps p i)) here.1
    ∙ passed_run span p ps k (i + 1) pos (λ j low high. passed j (omega arith) (omega arith))
    ∙ ap (λ n. run_flow span (Some p) n ps) same

pub passed_to : (span : Extent) (p : Periodic) (ps : List Placement) (i r : ℕ) → 1 ≤ p.interval → i ≤ r → ((j : ℕ) → i ≤ j → j < r → IsPassed span ps p j) → run_flow span (Some p) i ps ≡ run_flow span (Some p) r ps
passed_to span p ps i r pos le passed =
    let same : i + (r - i) ≡ r = omega arith in
    passed_run span p ps (r - i) i pos (λ j low high. passed j low (omega arith)) ∙ ap (λ n. run_flow span (Some p) n ps) same

-- a window that ended before the MAP is missed
pub ended_passed : (span : Extent) (ps : List Placement) (p : Periodic) (i : ℕ) → due_at p i + p.jitter < span.start → IsPassed span ps p i
ended_passed span ps p i lt = (omega arith, ap (λ b. cond b Missed (verdict_on span (first_fit span ps p.size (max (due_at p i) span.start) (due_at p i + p.jitter) p.last) (due_at p i + p.jitter))) (lt-ltb _ _ lt))

-- where nothing fits any more, a due time is missed or kept
full_none : (span : Extent) (ps : List Placement) (n lo hi last : ℕ) → ltb (length ps) most_placements ≡ false → first_fit span ps n lo hi last ≡ None
full_none span ps n lo hi last full = rw full refl

full_verdict : (span : Extent) (ps : List Placement) (p : Periodic) (i : ℕ) → ltb (length ps) most_placements ≡ false → verdict span ps p i ≡ cond (ltb (due_at p i + p.jitter) span.start) Missed (unplaced span (due_at p i + p.jitter))
full_verdict span ps p i full = ap (λ o. cond (ltb (due_at p i + p.jitter) span.start) Missed (verdict_on span o (due_at p i + p.jitter))) (full_none span ps p.size _ _ _ full)

pub full_passed : (span : Extent) (ps : List Placement) (p : Periodic) (i : ℕ) → ltb (length ps) most_placements ≡ false → due_at p i + p.jitter < end_of span → IsPassed span ps p i
full_passed span ps p i full lt = (omega arith, full_verdict span ps p i full ∙ by (ltb (due_at p i + p.jitter) span.start))
  where
    by : (b : Bool) → cond b Missed (unplaced span (due_at p i + p.jitter)) ≡ Missed
    by true = refl
    by false = ap (λ b. cond b Kept Missed) (lt-leb (end_of span) (due_at p i + p.jitter) lt)

-- and the first whose window ends at the MAP's end or later is kept, or due behind the MAP
pub full_stays : (span : Extent) (ps : List Placement) (p : Periodic) (i : ℕ) → 1 ≤ p.interval → ltb (length ps) most_placements ≡ false → end_of span ≤ due_at p i + p.jitter → run_flow span (Some p) i ps ≡ record { placements = ps; index = i }
full_stays span ps p i pos full le = ⊎_elim (λ (lt : due_at p i < end_of span). run_kept span p i ps pos lt (ap goes_on kept) ∙ ap (λ v. record { placements = placements_on v ps p i; index = i }) kept) (λ (late : end_of span ≤ due_at p i). run_done span p i ps late) (cases_lt (due_at p i) (end_of span))
  where
    kept : verdict span ps p i ≡ Kept
    kept =
        full_verdict span ps p i full
        ∙ ap (λ b. cond b Missed (unplaced span (due_at p i + p.jitter))) (le-ltb (due_at p i + p.jitter) span.start (omega arith))
        ∙ ap (λ b. cond b Kept Missed) (le-leb (end_of span) (due_at p i + p.jitter) le)

-- so many due times, rounded up, lie before a bound
pub below_ceil : (p : Periodic) (i j r k bound : ℕ) → 1 ≤ p.interval → k ≡ div_ceil r p.interval → i ≤ j → j < i + k → due_at p i + p.jitter + r ≡ bound → due_at p j + p.jitter < bound
below_ceil p i j r k bound pos is low high reach =
    let ceil = (div_ceil_times r p.interval pos).1 in
    let times : k * p.interval < r + p.interval = rw is ceil in
    let more : (j + 1) * p.interval ≤ (i + k) * p.interval = mul-le (j + 1) p.interval (i + k) p.interval (omega arith) (omega arith) in
    omega arith

verdict_same : (span : Extent) (f : PartMap) (p : Periodic) (i : ℕ) → f.span ≡ span → verdict f.span f.placements p i ≡ verdict span f.placements p i
verdict_same span f p i is = ap (λ (s : Extent). verdict s f.placements p i) is

-- a due time after which the flow goes on, and one that is kept, as they are placed
pub step_on : (span : Extent) (f : PartMap) (p : Periodic) (i : ℕ) (qs : List Placement) (b : Bool) → f.span ≡ span → 1 ≤ p.interval → due_at p i < end_of span
    → b ≡ goes_on (verdict f.span f.placements p i) → b ≡ true → qs ≡ placements_on (verdict f.span f.placements p i) f.placements p i
    → run_flow span (Some p) i f.placements ≡ run_flow span (Some p) (i + 1) qs
step_on span f p i qs b is pos lt goes on placed =
    let same = verdict_same span f p i is in
    run_on span p i f.placements pos lt (ap goes_on (sym same) ∙ sym goes ∙ on)
    ∙ ap (λ v. run_flow span (Some p) (i + 1) (placements_on v f.placements p i)) (sym same)
    ∙ ap (λ (ps : List Placement). run_flow span (Some p) (i + 1) ps) (sym placed)

pub step_off : (span : Extent) (f : PartMap) (p : Periodic) (i : ℕ) (qs : List Placement) (b : Bool) → f.span ≡ span → 1 ≤ p.interval → due_at p i < end_of span
    → b ≡ goes_on (verdict f.span f.placements p i) → b ≡ false → qs ≡ placements_on (verdict f.span f.placements p i) f.placements p i
    → run_flow span (Some p) i f.placements ≡ record { placements = qs; index = i }
step_off span f p i qs b is pos lt goes off placed =
    let same = verdict_same span f p i is in
    run_kept span p i f.placements pos lt (ap goes_on (sym same) ∙ sym goes ∙ off)
    ∙ ap (λ v. record { placements = placements_on v f.placements p i; index = i }) (sym same)
    ∙ ap (λ (ps : List Placement). record { placements = ps; index = i }) (sym placed)

-- windows that ended before the MAP, and those that find nothing free any more
pub begun_run : (span : Extent) (p : Periodic) (ps : List Placement) (i r start : ℕ) → 1 ≤ p.interval → start ≡ span.start → i ≤ r → ((j : ℕ) → i ≤ j → j < r → due_at p j + p.jitter < start) → run_flow span (Some p) i ps ≡ run_flow span (Some p) r ps
begun_run span p ps i r start pos is le passed = passed_to span p ps i r pos le (λ j low high. ended_passed span ps p j (let before = passed j low high in omega arith))

pub full_run : (span : Extent) (p : Periodic) (ps : List Placement) (i r end : ℕ) (b : Bool) → 1 ≤ p.interval → end ≡ end_of span → b ≡ not (ltb (length ps) most_placements) → b ≡ true → i ≤ r
    → ((j : ℕ) → i ≤ j → j < r → due_at p j + p.jitter < end) → end ≤ due_at p r + p.jitter → run_flow span (Some p) i ps ≡ record { placements = ps; index = r }
full_run span p ps i r end b pos is told full le passed stays =
    let none : ltb (length ps) most_placements ≡ false = not_not_false _ (sym told ∙ full) in
    passed_to span p ps i r pos le (λ j low high. full_passed span ps p j none (let before = passed j low high in omega arith))
    ∙ full_stays span ps p r pos none (omega arith)
  where
    not_not_false : (v : Bool) → not v ≡ true → v ≡ false
    not_not_false true e = absurd cc
    not_not_false false e = refl
