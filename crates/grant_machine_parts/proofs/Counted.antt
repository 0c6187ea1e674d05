-- How many minislots are free: those of the gaps, and so many fewer after a placement where they were.
use Rattle.std.proofs.Common.{◌≡◌, ◌⊎◌, ℕ, zero, suc, ◌+◌, ◌-◌, ◌<◌, ◌≤◌, ◌^◌, Bool, true, false, cond, not, ◌&&◌, List}
use Rattle.std.proofs.Common.{[], ◌∷◌, ◌++◌, filter, length, drop, get_or, min, Some, None, is_none, inl, inr, refl}
use Rattle.std.proofs.Common.{sym, ap, ◌∙◌, arith}
use Rattle.std.specs.List.{range_with_len}
use Rattle.std.proofs.lemmas.Bool.{false_from_ne_true}
use Rattle.std.proofs.lemmas.List.{drop_more}
use Rattle.std.proofs.lemmas.List.Sums.{sum_by-append}
use Rattle.std.specs.List.{sum_by}
use Rattle.std.proofs.Math.ListN.{drop_of_length-le}
use Rattle.minislot_time.specs.Extent.{Extent}
use Rattle.grant_machine_parts.specs.Placing.{Placement, is_window, holds, holder, is_free, free_minislots, first_fit}
use Rattle.flow_state.specs.declared.channel.Channel.{Channel}
use Rattle.flow_state.specs.declared.flow.Waiting.{Waiting}
use Rattle.flow_state.specs.Rows.{Table, last_of}
use Rattle.grant_machine_parts.specs.Cutting.{CutSettings, Periodic, Placed, verdict, placement_at, placement_for}
use Rattle.grant_machine_parts.specs.Cutting.{fill_windows, in_order, fill_span}
use Rattle.grant_machine_parts.specs.Gaps.{Gap, IsGap, AreGaps}
use Rattle.flow_state.proofs.Callers.{filter_append}
use Rattle.grant_machine_parts.proofs.Carved.{free_added}
use Rattle.grant_machine_parts.proofs.Fillings.{Fit, none_is, IsRequestFit, fit_tells, placed_fit, requests_keep}
use Rattle.grant_machine_parts.proofs.Fillings.{windows_keep}
use Rattle.grant_machine_parts.proofs.Bodies.{holds_from, holds_below, it_holds}

-- ---- numbers of a row that pass a test

abbrev pub tally : (ℕ → Bool) → (a n : ℕ) → ℕ
tally f a zero = 0
tally f a (suc n) = cond {A = ℕ} (f a) 1 0 + tally f (a + 1) n

pub listed : (f : ℕ → Bool) (a n : ℕ) → length (filter f (range_with_len a n)) ≡ tally f a n
listed f a zero = refl
listed f a (suc n) =
    let rest : length (filter f (range_with_len (a + 1) n)) ≡ tally f (a + 1) n = listed f (a + 1) n in
    elim (f a) as (λ b. length (cond b (a ∷ filter f (range_with_len (a + 1) n)) (filter f (range_with_len (a + 1) n))) ≡ cond {A = ℕ} b 1 0 + tally f (a + 1) n) [ true ↦ omega arith | false ↦ omega arith ]

-- a row in two parts
split : (f : ℕ → Bool) (a m n k : ℕ) → k ≡ m + n → tally f a k ≡ tally f a m + tally f (a + m) n
split f a zero n k e =
    let len : tally f a k ≡ tally f a n = ap (tally f a) (let same : k ≡ n = omega arith in same) in
    let from : tally f a n ≡ tally f (a + 0) n = ap (λ b. tally f b n) (let same : a ≡ a + 0 = omega arith in same) in
    omega arith
split f a (suc m) n zero e = absurd (omega arith)
split f a (suc m) n (suc k) e =
    let rest : tally f (a + 1) k ≡ tally f (a + 1) m + tally f (a + 1 + m) n = split f (a + 1) m n k (omega arith) in
    let from : tally f (a + 1 + m) n ≡ tally f (a + suc m) n = ap (λ b. tally f b n) (let same : a + 1 + m ≡ a + suc m = omega arith in same) in
    omega arith

all_pass : (f : ℕ → Bool) (a n : ℕ) → ((x : ℕ) → a ≤ x → x < a + n → f x ≡ true) → tally f a n ≡ n
all_pass f a zero each = refl
all_pass f a (suc n) each =
    let rest : tally f (a + 1) n ≡ n = all_pass f (a + 1) n (λ x ge lt. each x (omega arith) (omega arith)) in
    let here : cond {A = ℕ} (f a) 1 0 ≡ 1 = ap (λ b. cond {A = ℕ} b 1 0) (each a (omega arith) (omega arith)) in
    omega arith

none_pass : (f : ℕ → Bool) (a n : ℕ) → ((x : ℕ) → a ≤ x → x < a + n → f x ≡ false) → tally f a n ≡ 0
none_pass f a zero each = refl
none_pass f a (suc n) each =
    let rest : tally f (a + 1) n ≡ 0 = none_pass f (a + 1) n (λ x ge lt. each x (omega arith) (omega arith)) in
    let here : cond {A = ℕ} (f a) 1 0 ≡ 0 = ap (λ b. cond {A = ℕ} b 1 0) (each a (omega arith) (omega arith)) in
    omega arith

alike : (f g : ℕ → Bool) (a n : ℕ) → ((x : ℕ) → a ≤ x → x < a + n → f x ≡ g x) → tally f a n ≡ tally g a n
alike f g a zero each = refl
alike f g a (suc n) each =
    let rest : tally f (a + 1) n ≡ tally g (a + 1) n = alike f g (a + 1) n (λ x ge lt. each x (omega arith) (omega arith)) in
    let here : cond {A = ℕ} (f a) 1 0 ≡ cond {A = ℕ} (g a) 1 0 = ap (λ b. cond {A = ℕ} b 1 0) (each a (omega arith) (omega arith)) in
    omega arith

-- ---- minislots of gaps

abbrev pub width_of : List Gap → ℕ
width_of [] = 0
width_of (g ∷ gs) = (g.to - g.from) + width_of gs

pub gaps_have : (free : ℕ → Bool) (a len : ℕ) (gs : List Gap) → a ≤ len → AreGaps free a len gs → width_of gs ≡ tally free a (len - a)
gaps_have free a len [] le none = sym (none_pass free a (len - a) (λ x ge lt. none x ge (omega arith)))
gaps_have free a len (g ∷ gs) le are =
    let is : IsGap free a len g = are.0 in
    let from = is.from in
    let to = is.to in
    let within = is.within in
    let rest : width_of gs ≡ tally free g.to (len - g.to) = gaps_have free g.to len gs within are.1 in
    let one : tally free a (len - a) ≡ tally free a (g.from - a) + tally free (a + (g.from - a)) (len - g.from) = split free a (g.from - a) (len - g.from) (len - a) (omega arith) in
    let at_from : tally free (a + (g.from - a)) (len - g.from) ≡ tally free g.from (len - g.from) = ap (λ b. tally free b (len - g.from)) (let same : a + (g.from - a) ≡ g.from = omega arith in same) in
    let two : tally free g.from (len - g.from) ≡ tally free g.from (g.to - g.from) + tally free (g.from + (g.to - g.from)) (len - g.to) = split free g.from (g.to - g.from) (len - g.to) (len - g.from) (omega arith) in
    let at_to : tally free (g.from + (g.to - g.from)) (len - g.to) ≡ tally free g.to (len - g.to) = ap (λ b. tally free b (len - g.to)) (let same : g.from + (g.to - g.from) ≡ g.to = omega arith in same) in
    let before : tally free a (g.from - a) ≡ 0 = none_pass free a (g.from - a) (λ x ge lt. is.before x ge (omega arith)) in
    let inside : tally free g.from (g.to - g.from) ≡ g.to - g.from = all_pass free g.from (g.to - g.from) (λ x ge lt. is.inside x ge (omega arith)) in
    omega arith

passing : (f : ℕ → Bool) (a n : ℕ) → tally f a n ≤ n
passing f a zero = omega arith
passing f a (suc n) = let rest = passing f (a + 1) n in elim (f a) as (λ b. cond {A = ℕ} b 1 0 + tally f (a + 1) n ≤ suc n) [ true ↦ omega arith | false ↦ omega arith ]

-- one more gap of those that are counted
pub width_step : (gs : List Gap) (i len before : ℕ) (d : Gap) (free : ℕ → Bool) → AreGaps free 0 len gs → len < 2 ^ 16 → i < length gs → before + width_of (drop i gs) ≡ width_of gs
    → min (before + ((get_or gs i d).to - (get_or gs i d).from)) 65535 + width_of (drop (i + 1) gs) ≡ width_of gs
width_step gs i len before d free are short lt so =
    let next : width_of (drop i gs) ≡ width_of (get_or gs i d ∷ drop (i + 1) gs) = ap width_of (drop_more gs i d lt) in
    let all : width_of gs ≡ tally free 0 (len - 0) = gaps_have free 0 len gs (omega arith) are in
    let few = passing free 0 (len - 0) in
    omega arith

-- all of them
pub width_all : (gs : List Gap) (i len before : ℕ) (free : ℕ → Bool) → AreGaps free 0 len gs → length gs ≤ i → before + width_of (drop i gs) ≡ width_of gs → before ≡ length (filter free (range_with_len 0 len))
width_all gs i len before free are over so =
    let none : width_of (drop i gs) ≡ 0 = ap width_of (drop_of_length-le gs over) in
    let all : width_of gs ≡ tally free 0 (len - 0) = gaps_have free 0 len gs (omega arith) are in
    let same : tally free 0 (len - 0) ≡ tally free 0 len = ap (tally free 0) (let e : len - 0 ≡ len = omega arith in e) in
    let are_listed = listed free 0 len in
    omega arith

-- ---- minislots of placements

-- at most as many are free as there are
pub free_within : (span : Extent) (ps : List Placement) → free_minislots span ps ≤ span.len
free_within span ps = let few = passing (is_free ps) 0 span.len in let same = listed (is_free ps) 0 span.len in omega arith

-- so many are held by one more placement that fits
pub free_after : (span : Extent) (ps : List Placement) (p : Placement) (last : ℕ) → Fit span ps p.size last p.offset → free_minislots span (ps ++ p ∷ []) + p.size ≡ free_minislots span ps
free_after span ps p last fit =
    let f : ℕ → Bool = is_free ps in
    let g : ℕ → Bool = is_free (ps ++ p ∷ []) in
    let x : ℕ = p.offset in
    let n : ℕ = p.size in
    let within : x + n ≤ span.len = fit.within in
    let old = listed f 0 span.len in
    let new = listed g 0 span.len in
    let f_one : tally f 0 span.len ≡ tally f 0 x + tally f (0 + x) (span.len - x) = split f 0 x (span.len - x) span.len (omega arith) in
    let f_two : tally f (0 + x) (span.len - x) ≡ tally f (0 + x) n + tally f (0 + x + n) (span.len - x - n) = split f (0 + x) n (span.len - x - n) (span.len - x) (omega arith) in
    let g_one : tally g 0 span.len ≡ tally g 0 x + tally g (0 + x) (span.len - x) = split g 0 x (span.len - x) span.len (omega arith) in
    let g_two : tally g (0 + x) (span.len - x) ≡ tally g (0 + x) n + tally g (0 + x + n) (span.len - x - n) = split g (0 + x) n (span.len - x - n) (span.len - x) (omega arith) in
    let before : tally g 0 x ≡ tally f 0 x = alike g f 0 x (λ y ge lt. beside y (inl (omega arith))) in
    let behind : tally g (0 + x + n) (span.len - x - n) ≡ tally f (0 + x + n) (span.len - x - n) = alike g f (0 + x + n) (span.len - x - n) (λ y ge lt. beside y (inr (omega arith))) in
    let were : tally f (0 + x) n ≡ n = all_pass f (0 + x) n (λ y ge lt. ap is_none (fit.free y (omega arith) (omega arith))) in
    let are : tally g (0 + x) n ≡ 0 = none_pass g (0 + x) n (λ y ge lt. taken y (omega arith) (omega arith)) in
    omega arith
  where
    taken : (y : ℕ) → p.offset ≤ y → y < p.offset + p.size → is_free (ps ++ p ∷ []) y ≡ false
    taken y ge lt = free_added ps p y ∙ ap (λ b. is_free ps y && not b) (it_holds y p ge lt) ∙ off (is_free ps y)
      where
        off : (b : Bool) → (b && false) ≡ false
        off true = refl
        off false = refl

    beside : (y : ℕ) → (y < p.offset) ⊎ (p.offset + p.size ≤ y) → is_free (ps ++ p ∷ []) y ≡ is_free ps y
    beside y apart = free_added ps p y ∙ ap (λ b. is_free ps y && not b) (false_from_ne_true (holds y p) (λ e. no y apart (holds_from y p e) (holds_below y p e))) ∙ same (is_free ps y)
      where
        no : (z : ℕ) → (z < p.offset) ⊎ (p.offset + p.size ≤ z) → p.offset ≤ z → z < p.offset + p.size → ⊥
        no z (inl lt) ge le = omega arith
        no z (inr ge) from le = omega arith

        same : (b : Bool) → (b && true) ≡ b
        same true = refl
        same false = refl

-- how many are left after a request
pub placed_left : (span now : Extent) (ps qs : List Placement) (p : Placement) (lo hi last free : ℕ) → first_fit span ps p.size lo hi last ≡ Some p.offset → now ≡ span → qs ≡ ps ++ p ∷ [] → free ≡ free_minislots span ps
    → free - p.size ≡ free_minislots now qs
placed_left span now ps qs p lo hi last free fits same put counted =
    let held = free_after span ps p last (fit_tells span ps p.size lo hi last p.offset fits) in
    let left : free - p.size ≡ free_minislots span (ps ++ p ∷ []) = omega arith in
    left ∙ ap (λ (rs : List Placement). free_minislots span rs) (sym put) ∙ ap (λ (s : Extent). free_minislots s qs) (sym same)

-- a first fit is free
pub fit_room : (span : Extent) (ps : List Placement) (n last x : ℕ) → Fit span ps n last x → n ≤ free_minislots span ps
fit_room span ps n last x fit =
    let f : ℕ → Bool = is_free ps in
    let within : x + n ≤ span.len = fit.within in
    let all = listed f 0 span.len in
    let one : tally f 0 span.len ≡ tally f 0 x + tally f (0 + x) (span.len - x) = split f 0 x (span.len - x) span.len (omega arith) in
    let two : tally f (0 + x) (span.len - x) ≡ tally f (0 + x) n + tally f (0 + x + n) (span.len - x - n) = split f (0 + x) n (span.len - x - n) (span.len - x) (omega arith) in
    let are : tally f (0 + x) n ≡ n = all_pass f (0 + x) n (λ y ge lt. ap is_none (fit.free y (omega arith) (omega arith))) in
    omega arith

pub free_is_none : (ps : List Placement) (x : ℕ) → is_free ps x ≡ true → holder ps x ≡ None
free_is_none ps x e = none_is (holder ps x) e

-- ---- minislots that are kept

-- so many minislots are given to due times
abbrev pub due_minislots : List Placement → ℕ
due_minislots ps = sum_by (λ p. p.size) (filter (λ p. is_window p.cause) ps)

due_more : (ps : List Placement) (p : Placement) → due_minislots (ps ++ p ∷ []) ≡ due_minislots ps + cond {A = ℕ} (is_window p.cause) p.size 0
due_more ps p =
    ap (sum_by (λ (q : Placement). q.size)) (filter_append (λ q. is_window q.cause) ps (p ∷ []))
    ∙ sum_by-append (λ (q : Placement). q.size) (filter (λ q. is_window q.cause) ps) (filter (λ q. is_window q.cause) (p ∷ []))
    ∙ elim (is_window p.cause) as (λ b. due_minislots ps + sum_by (λ (q : Placement). q.size) (cond b (p ∷ []) []) ≡ due_minislots ps + cond {A = ℕ} b p.size 0) [ true ↦ omega arith | false ↦ omega arith ]

module _ (t : Table) (span : Extent) (s : CutSettings) where
  -- what due times aren't given is free
  abbrev Leaves : List Placement → Type 0
  Leaves ps = span.len ≤ free_minislots span ps + due_minislots ps

  leaves_due : (p : Periodic) (j x : ℕ) (ps : List Placement) → Leaves ps → verdict span ps p j ≡ Placed x → Leaves (ps ++ placement_at p j x ∷ [])
  leaves_due p j x ps leaves v =
      let held = free_after span ps (placement_at p j x) p.last (placed_fit span ps p j x v) in
      let more = due_more ps (placement_at p j x) in
      omega arith

  leaves_none : Leaves []
  leaves_none = let all = listed (is_free []) 0 span.len in let each = all_pass (is_free []) 0 span.len (λ x ge lt. refl) in omega arith

  -- so many minislots are free as are kept, where due times leave as many
  abbrev Keeps : List Placement → Type 0
  Keeps ps = min s.keep (span.len - due_minislots ps) ≤ free_minislots span ps

  keeps_request : (c : Channel) (w : Waiting) (ps : List Placement) (x last : ℕ) → Keeps ps → IsRequestFit span ps s.keep w.n last x → Keeps (ps ++ placement_for c w x ∷ [])
  keeps_request c w ps x last keeps fit =
      let held = free_after span ps (placement_for c w x) last fit.fit in
      let more = due_more ps (placement_for c w x) in
      let left = fit.left in
      omega arith

  pub kept_free : Keeps (fill_span t span s).placements
  kept_free =
      let c : Channel = t.row.channel in
      let windows : Leaves (fill_windows t span).placements = windows_keep Leaves t span (λ p ps j x k v. leaves_due p j x ps k v) leaves_none in
      requests_keep Keeps span c s.keep (last_of t) (in_order t t.waiting) (λ w h ps x k fit. keeps_request c w ps x (last_of t w.sid) k fit) (fill_windows t span).placements (omega arith)
