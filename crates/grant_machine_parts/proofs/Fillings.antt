-- How a MAP is filled: each placement fits where it is put, and the table after it is well.
use Rattle.std.proofs.Common.{◌≡◌, ◌≢◌, ◌⊎◌, ℕ, zero, suc, ◌+◌, ◌*◌, ◌-◌, ◌/◌, ◌<◌, ◌≤◌, Bool, true, false, cond, not}
use Rattle.std.proofs.Common.{◌&&◌, max, List, [], ◌∷◌, ◌++◌, filter, length, Option, Some, None, refl, sym, ap, subst}
use Rattle.std.proofs.Common.{◌∙◌, arith, inl, inr, eqb, leb, ltb, is_none, add-mul, one-mul, div-mul-le_self}
use Rattle.std.proofs.Common.{mul-le-mul_right}
use Rattle.std.specs.List.{list_any, list_all, find, range_with_len, AllZip}
use Rattle.std.proofs.lemmas.Bool.{leb-true, ltb-true, and_parts, not-true, ltb-false}
use Rattle.std.proofs.lemmas.Option.{same_Some}
use Rattle.minislot_time.specs.Extent.{Extent}
use Rattle.map_body.specs.Iucs as iucs
use Rattle.flow_state.specs.declared.channel.Channel.{Channel}
use Rattle.flow_state.specs.declared.channel.Phy.{Phy}
use Rattle.flow_state.specs.declared.channel.Phy.TheVariants.{Tdma, Advanced}
use Rattle.flow_state.specs.declared.flow.FlowKind.{FlowKind}
use Rattle.flow_state.specs.declared.flow.FlowKind.TheVariants.{BestEffort, Ugs, Poll, Station, Initial}
use Rattle.flow_state.specs.declared.flow.Lease.{Lease}
use Rattle.flow_state.specs.declared.flow.Waiting.{Waiting}
use Rattle.flow_state.specs.declared.refusal.Refusal.TheVariants.{BadValue}
use Rattle.flow_state.specs.Limits.{last_time, most_minislots, longest_interval, last_sid, is_good_kind, is_size}
use Rattle.flow_state.specs.Limits.{is_schedule, is_timed, takes_no_requests, due_time}
use Rattle.flow_state.specs.Rows.{Table, FlowRow, is_of, is_of_sid, flow_of, last_in, last_of, is_ended, has_ended}
use Rattle.flow_state.specs.Rows.{lease_in}
use Rattle.grant_machine_parts.specs.Placing.{Cause, Window, Sent, Placement, holder, is_free, free_minislots, fits_at}
use Rattle.grant_machine_parts.specs.Placing.{first_fit, most_placements}
use Rattle.grant_machine_parts.specs.Cutting.{Periodic, due_at, end_of, Missed, Placed, Kept, verdict, verdict_on}
use Rattle.grant_machine_parts.specs.Cutting.{placement_at, Ran, run_due_times, run_flow, due_before, Passed, pass}
use Rattle.grant_machine_parts.specs.Cutting.{grants_of_flow, polls_of_flow, maintenance_of_flow, grants_of_kind}
use Rattle.grant_machine_parts.specs.Cutting.{polls_of_kind, maintenance_of_kind, fill_grants, fill_polls, fill_windows}
use Rattle.grant_machine_parts.specs.Cutting.{sized_iuc, grant_iuc, unsolicited_on, unsolicited_iuc, poll_iuc}
use Rattle.grant_machine_parts.specs.Cutting.{priority_of, in_order, placement_for, request_fit, place_requests}
use Rattle.grant_machine_parts.specs.Cutting.{is_grant_of, CutSettings, Filled, fill, fill_span, fill_refusal, span_of}
use Rattle.grant_machine_parts.specs.Cutting.{are_within_limits, table_after, flows_served}
use Rattle.grant_machine_parts.specs.Filling.{IsRequestedUse, IsMaintenanceUse, IsDueUse, IsUseFor}
use Rattle.flow_state.proofs.Callers.{Has, has_filter, filter_has, has_flat_map}
use Rattle.grant_machine_parts.proofs.Offsets.{first_or_later}
use Rattle.grant_machine_parts.proofs.Windows.{first_fit_tells, placed_is, placed_tells}
use Rattle.flow_state.proofs.Callers.{IsWell, IsWellFlow, RisingFrom, filter_fewer, filter_both, flow_found, ended_with}
use Rattle.flow_state.proofs.Callers.{rising_filter}

-- ---- where a placement may go

-- there is room for a placement, and n free minislots of the MAP begin at x and end by the last one
pub record Fit (span : Extent) (ps : List Placement) (n last x : ℕ) : Type 0 where
  pub few : length ps < most_placements
  pub within : x + n ≤ span.len
  pub in_lease : span.start + x + n ≤ last + 1
  pub free : (y : ℕ) → x ≤ y → y < x + n → holder ps y ≡ None

pub none_is : {X : Type 0} (o : Option X) → is_none o ≡ true → o ≡ None
none_is None e = refl
none_is (Some x) e = absurd cc

all_free : (ps : List Placement) (a n y : ℕ) → list_all (is_free ps) (range_with_len a n) ≡ true → a ≤ y → y < a + n → holder ps y ≡ None
all_free ps a zero y e ge lt = absurd (omega arith)
all_free ps a (suc n) y e ge lt = elim (first_or_later a y ge) [
  | inl same ↦ none_is (holder ps y) (subst (λ k. is_free ps k ≡ true) same (and_parts _ _ e).0)
  | inr more ↦ all_free ps (a + 1) n y (and_parts _ _ e).1 more (omega arith)
]

pub fit_tells : (span : Extent) (ps : List Placement) (n lo hi last x : ℕ) → first_fit span ps n lo hi last ≡ Some x → Fit span ps n last x
fit_tells span ps n lo hi last x e =
    let t = first_fit_tells span ps n lo hi last x e in
    record { few = by (ltb (length ps) most_placements) refl e; within = t.within; in_lease = t.in_lease; free = λ y ge lt. all_free ps x n y t.free ge lt }
  where
    by : (b : Bool) → ltb (length ps) most_placements ≡ b → cond b (find (fits_at span ps n lo hi last) (range_with_len 0 span.len)) None ≡ Some x → length ps < most_placements
    by true h f = ltb-true _ _ h
    by false h f = absurd cc

-- so many minislots more than the n stay free
pub record IsRequestFit (span : Extent) (ps : List Placement) (keep n last x : ℕ) : Type 0 where
  pub fit : Fit span ps n last x
  pub left : n + keep ≤ free_minislots span ps

pub request_tells : (span : Extent) (keep : ℕ) (last : ℕ → ℕ) (w : Waiting) (ps : List Placement) (x : ℕ) → request_fit span keep last w ps ≡ Some x → IsRequestFit span ps keep w.n (last w.sid) x
request_tells span keep last w ps x e = by (leb (w.n + keep) (free_minislots span ps)) refl e
  where
    by : (b : Bool) → leb (w.n + keep) (free_minislots span ps) ≡ b → cond b (first_fit span ps w.n span.start (end_of span - w.n) (last w.sid)) None ≡ Some x → IsRequestFit span ps keep w.n (last w.sid) x
    by true h f = record { fit = fit_tells span ps w.n span.start (end_of span - w.n) (last w.sid) x f; left = leb-true _ _ h }
    by false h f = absurd cc

pub placed_fit : (span : Extent) (ps : List Placement) (p : Periodic) (i x : ℕ) → verdict span ps p i ≡ Placed x → Fit span ps p.size p.last x
placed_fit span ps p i x e =
    elim (ltb (due_at p i + p.jitter) span.start) as (λ b. cond b Missed (verdict_on span (first_fit span ps p.size (max (due_at p i) span.start) (due_at p i + p.jitter) p.last) (due_at p i + p.jitter)) ≡ Placed x → Fit span ps p.size p.last x) [
      | true ↦ λ f. absurd cc
      | false ↦ λ f. fit_tells span ps p.size _ _ _ x (placed_is span _ _ x f)
    ] e

-- ---- due times

-- a use that is neither the Null's nor an expansion element's
abbrev pub IsUse : ℕ → Type 0
IsUse iuc = (iuc ≢ 7) × (iuc < 15)

pub plain_request : (iuc : ℕ) → iuc ≡ 1 → IsUse iuc
plain_request iuc e = (λ n. absurd (omega arith), omega arith)

pub plain_requested : (phy : Phy) (iuc : ℕ) → IsRequestedUse phy iuc → IsUse iuc
plain_requested Tdma iuc (inl e) = (λ n. absurd (omega arith), omega arith)
plain_requested Tdma iuc (inr e) = (λ n. absurd (omega arith), omega arith)
plain_requested Advanced iuc (inl e) = (λ n. absurd (omega arith), omega arith)
plain_requested Advanced iuc (inr e) = (λ n. absurd (omega arith), omega arith)

plain_maintenance : (iuc : ℕ) → IsMaintenanceUse iuc → IsUse iuc
plain_maintenance iuc (inl e) = (λ n. absurd (omega arith), omega arith)
plain_maintenance iuc (inr e) = (λ n. absurd (omega arith), omega arith)

plain_due : (phy : Phy) (iuc : ℕ) → IsDueUse phy iuc → IsUse iuc
plain_due phy iuc (inl e) = plain_request iuc e
plain_due phy iuc (inr (inl e)) = plain_maintenance iuc e
plain_due Tdma iuc (inr (inr e)) = plain_requested Tdma iuc e
plain_due Advanced iuc (inr (inr e)) = (λ n. absurd (omega arith), omega arith)

-- what comes at due times within the limits, on a channel of this kind
pub record IsWellPeriodic (phy : Phy) (p : Periodic) : Type 0 where
  pub some : 1 ≤ p.size
  pub most : p.size ≤ 255
  pub unicast : 1 ≤ p.sid
  pub last : p.sid ≤ last_sid
  pub iuc : IsDueUse phy p.iuc
  pub short : p.interval ≤ longest_interval

sized_use : (phy : Phy) (b : Bool) → IsRequestedUse phy (sized_iuc phy b)
sized_use Tdma true = inl refl
sized_use Tdma false = inr refl
sized_use Advanced true = inl refl
sized_use Advanced false = inr refl

pub grant_use : (c : Channel) (n : ℕ) → IsRequestedUse c.phy (grant_iuc c n)
grant_use c n = sized_use c.phy (leb n c.short_max)

unsolicited_use : (c : Channel) (n : ℕ) → IsDueUse c.phy (unsolicited_iuc c n)
unsolicited_use c n = by c.phy refl
  where
    by : (phy : Phy) → c.phy ≡ phy → IsDueUse phy (unsolicited_on phy c n)
    by Tdma e = inr (inr (subst (λ (p : Phy). IsRequestedUse p (sized_iuc c.phy (leb n c.short_max))) e (grant_use c n)))
    by Advanced e = inr (inr refl)

-- the uses of grants of data are above those of maintenance
pub requested_high : (c : Channel) (n : ℕ) → 5 ≤ grant_iuc c n
requested_high c n = by c.phy (leb n c.short_max)
  where
    by : (phy : Phy) (b : Bool) → 5 ≤ sized_iuc phy b
    by Tdma true = omega arith
    by Tdma false = omega arith
    by Advanced true = omega arith
    by Advanced false = omega arith

pub unsolicited_high : (c : Channel) (n : ℕ) → 5 ≤ unsolicited_iuc c n
unsolicited_high c n = by c.phy
  where
    by : (phy : Phy) → 5 ≤ unsolicited_on phy c n
    by Tdma = requested_high c n
    by Advanced = omega arith

-- what comes by itself for a flow: unsolicited grants, polls, or intervals of station or of initial maintenance
pub record IsOfFlow (c : Channel) (f : FlowRow) (p : Periodic) : Type 0 where
  pub sid : p.sid ≡ f.sid
  pub last : p.last ≡ f.last
  pub is : ((f.kind ≡ Ugs p.size p.interval p.jitter p.base) × (p.iuc ≡ unsolicited_iuc c p.size))
      ⊎ ((f.kind ≡ Poll p.interval p.jitter p.base) × (p.size ≡ 1) × (p.iuc ≡ poll_iuc))
      ⊎ ((f.kind ≡ Station p.size p.interval p.jitter p.base) × (p.iuc ≡ iucs.station_maintenance))
      ⊎ ((f.kind ≡ Initial p.size p.interval p.jitter p.base) × (p.iuc ≡ iucs.initial_maintenance))

-- what a pass asks of flows is theirs
abbrev pub Asks : Channel → (FlowRow → Option Periodic) → Type 0
Asks c what = (f : FlowRow) (p : Periodic) → what f ≡ Some p → IsOfFlow c f p

pub grants_of : (c : Channel) → Asks c (grants_of_flow c)
grants_of c f p e = by f.kind refl e
  where
    by : (k : FlowKind) → f.kind ≡ k → grants_of_kind c f.sid f.last k ≡ Some p → IsOfFlow c f p
    by (BestEffort priority) h g = absurd cc
    by (Poll interval jitter base) h g = absurd cc
    by (Ugs size interval jitter base) h g = subst (IsOfFlow c f) (same_Some _ p g) (record { sid = refl; last = refl; is = inl (h, refl) })
    by (Station size interval jitter base) h g = absurd cc
    by (Initial size interval jitter base) h g = absurd cc

pub polls_of : (c : Channel) → Asks c (polls_of_flow c)
polls_of c f p e = by f.kind refl e
  where
    by : (k : FlowKind) → f.kind ≡ k → polls_of_kind c f.sid f.last k ≡ Some p → IsOfFlow c f p
    by (BestEffort priority) h g = absurd cc
    by (Ugs size interval jitter base) h g = absurd cc
    by (Poll interval jitter base) h g = subst (IsOfFlow c f) (same_Some _ p g) (record { sid = refl; last = refl; is = inr (inl (h, refl, refl)) })
    by (Station size interval jitter base) h g = absurd cc
    by (Initial size interval jitter base) h g = absurd cc

pub maintenance_of : (c : Channel) → Asks c (maintenance_of_flow c)
maintenance_of c f p e = by f.kind refl e
  where
    by : (k : FlowKind) → f.kind ≡ k → maintenance_of_kind c f.sid f.last k ≡ Some p → IsOfFlow c f p
    by (BestEffort priority) h g = absurd cc
    by (Ugs size interval jitter base) h g = absurd cc
    by (Poll interval jitter base) h g = absurd cc
    by (Station size interval jitter base) h g = subst (IsOfFlow c f) (same_Some _ p g) (record { sid = refl; last = refl; is = inr (inr (inl (h, refl))) })
    by (Initial size interval jitter base) h g = subst (IsOfFlow c f) (same_Some _ p g) (record { sid = refl; last = refl; is = inr (inr (inr (h, refl))) })

-- they are at the flow's due times, and within the limits where the flow is
pub due_is : {c : Channel} {f : FlowRow} {p : Periodic} → IsOfFlow c f p → (i : ℕ) → due_time f.kind i ≡ due_at p i
due_is of i = elim of.is [
  | inl grants ↦ ap (λ k. due_time k i) grants.0
  | inr (inl polls) ↦ ap (λ k. due_time k i) polls.0
  | inr (inr (inl station)) ↦ ap (λ k. due_time k i) station.0
  | inr (inr (inr initial)) ↦ ap (λ k. due_time k i) initial.0
]

pub timed : {c : Channel} {f : FlowRow} {p : Periodic} → IsOfFlow c f p → is_timed f.kind ≡ true
timed of = elim of.is [
  | inl grants ↦ ap is_timed grants.0
  | inr (inl polls) ↦ ap is_timed polls.0
  | inr (inr (inl station)) ↦ ap is_timed station.0
  | inr (inr (inr initial)) ↦ ap is_timed initial.0
]

short_interval : (interval jitter base : ℕ) → is_schedule interval jitter base ≡ true → interval ≤ longest_interval
short_interval interval jitter base e = leb-true _ _ (and_parts _ _ (and_parts _ _ (and_parts _ _ e).0).0).1

-- what comes by itself with a size within the limits
sized_periodic : (c : Channel) (p : Periodic) → 1 ≤ p.sid → p.sid ≤ last_sid → (is_size p.size && is_schedule p.interval p.jitter p.base) ≡ true → IsDueUse c.phy p.iuc → IsWellPeriodic c.phy p
sized_periodic c p unicast last good use_is =
    let parts = and_parts (is_size p.size) _ good in
    let size = and_parts _ _ parts.0 in
    record {
      some = leb-true _ _ size.0;
      most = leb-true _ _ size.1;
      unicast = unicast;
      last = last;
      iuc = use_is;
      short = short_interval p.interval p.jitter p.base parts.1;
    }

well_periodic : (c : Channel) (f : FlowRow) (p : Periodic) → IsWellFlow f → IsOfFlow c f p → IsWellPeriodic c.phy p
well_periodic c f p w of =
    let unicast : 1 ≤ p.sid = subst (λ n. 1 ≤ n) (sym of.sid) w.unicast in
    let last : p.sid ≤ last_sid = subst (λ n. n ≤ last_sid) (sym of.sid) w.last in
    elim of.is [
      | inl (kind, iuc) ↦ sized_periodic c p unicast last (ap is_good_kind (sym kind) ∙ w.kind) (subst (IsDueUse c.phy) (sym iuc) (unsolicited_use c p.size))
      | inr (inl (kind, one, iuc)) ↦
          let good : is_good_kind (Poll p.interval p.jitter p.base) ≡ true = ap is_good_kind (sym kind) ∙ w.kind in
          record { some = omega arith; most = omega arith; unicast = unicast; last = last; iuc = inl iuc; short = short_interval p.interval p.jitter p.base good }
      | inr (inr (inl (kind, iuc))) ↦ sized_periodic c p unicast last (ap is_good_kind (sym kind) ∙ w.kind) (inr (inl (inl iuc)))
      | inr (inr (inr (kind, iuc))) ↦ sized_periodic c p unicast last (ap is_good_kind (sym kind) ∙ w.kind) (inr (inl (inr iuc)))
    ]

abbrev IndexUpTo : ℕ → Ran → Type 0
IndexUpTo n ran = ran.index ≤ n

-- a flow goes on by as many due times as are tried, at most
index_within : (span : Extent) (p : Periodic) (k i : ℕ) (ps : List Placement) → (run_due_times span p k i ps).index ≤ i + k
index_within span p zero i ps = omega arith
index_within span p (suc k) i ps =
    elim (verdict span ps p i) as (λ v. IndexUpTo (i + suc k) (elim v [ Missed ↦ run_due_times span p k (i + 1) ps | Placed x ↦ run_due_times span p k (i + 1) (ps ++ placement_at p i x ∷ []) | Kept ↦ record { placements = ps; index = i } ])) [
      | Missed ↦ let less = index_within span p k (i + 1) ps in omega arith
      | Placed x ↦ let less = index_within span p k (i + 1) (ps ++ placement_at p i x ∷ []) in omega arith
      | Kept ↦ omega arith
    ]

due_later : (p : Periodic) (i j : ℕ) → i ≤ j → due_at p i ≤ due_at p j
due_later p i j le = let more : i * p.interval ≤ j * p.interval = mul-le-mul_right p.interval le in omega arith

-- the first due time that isn't tried is at most an interval behind the end
due_bound : (p : Periodic) (i end most : ℕ) → p.interval ≤ longest_interval → end ≤ most → due_at p i ≤ most + longest_interval → due_at p (i + due_before p i end) ≤ most + longest_interval
due_bound p i end most short le due =
    elim (ltb (due_at p i) end) as (λ b. ltb (due_at p i) end ≡ b → due_at p (i + cond b ((end - 1 - due_at p i) / p.interval + 1) 0) ≤ most + longest_interval) [
      | true ↦ λ h.
          let lt : due_at p i < end = ltb-true _ _ h in
          let q : ℕ = (end - 1 - due_at p i) / p.interval in
          let most_q : q * p.interval ≤ end - 1 - due_at p i = div-mul-le_self (end - 1 - due_at p i) p.interval in
          let outer : (i + (q + 1)) * p.interval ≡ i * p.interval + (q + 1) * p.interval = add-mul i (q + 1) p.interval in
          let inner : (q + 1) * p.interval ≡ q * p.interval + 1 * p.interval = add-mul q 1 p.interval in
          let last : 1 * p.interval ≡ p.interval = one-mul p.interval in
          by (i * p.interval) (q * p.interval) ((q + 1) * p.interval) (1 * p.interval) ((i + (q + 1)) * p.interval) p.interval p.base short lt most_q outer inner last
      | false ↦ λ h. let same : i + 0 ≡ i = omega arith in rw same due
    ] refl
  where
    by : (a b c d e interval base : ℕ) → interval ≤ longest_interval → base + a < end → b ≤ end - 1 - (base + a) → e ≡ a + c → c ≡ b + d → d ≡ interval → base + e ≤ most + longest_interval
    by a b c d e interval base small lt most_q outer inner last = omega arith

run_bound : (c : Channel) (span : Extent) (o : Option Periodic) (f : FlowRow) (ps : List Placement) → end_of span ≤ last_time → IsWellFlow f → ((p : Periodic) → o ≡ Some p → IsOfFlow c f p) → due_time f.kind (run_flow span o f.index ps).index ≤ last_time + longest_interval
run_bound c span None f ps le w of = w.due
run_bound c span (Some p) f ps le w of =
    let its = of p refl in
    let k : ℕ = due_before p f.index (end_of span) in
    let now : due_at p f.index ≤ last_time + longest_interval = subst (λ d. d ≤ last_time + longest_interval) (due_is its f.index) w.due in
    let bound = due_bound p f.index (end_of span) last_time (well_periodic c f p w its).short le now in
    let less = due_later p (run_flow span (Some p) f.index ps).index (f.index + k) (index_within span p k f.index ps) in
    subst (λ d. d ≤ last_time + longest_interval) (sym (due_is its (run_flow span (Some p) f.index ps).index)) (omega arith)

-- ---- a pass over flows

-- a flow before and after a pass: another due time is next
pub record Moves (f g : FlowRow) : Type 0 where
  pub index : ℕ
  pub is : g ≡ record f { index = index }
  pub well : IsWellFlow f → IsWellFlow g

-- what a pass does to each flow
pub pass_zip : (R : FlowRow → FlowRow → Type 0) (span : Extent) (what : FlowRow → Option Periodic) → ((f : FlowRow) (ps : List Placement) → R f (record f { index = (run_flow span (what f) f.index ps).index }))
    → (fs : List FlowRow) (ps : List Placement) → AllZip R fs (pass span what fs ps).flows
pass_zip R span what each [] ps = tt
pass_zip R span what each (f ∷ fs) ps = (each f ps, pass_zip R span what each fs (run_flow span (what f) f.index ps).placements)

pass_moves : (c : Channel) (span : Extent) (what : FlowRow → Option Periodic) (fs : List FlowRow) (ps : List Placement) → end_of span ≤ last_time → Asks c what → AllZip Moves fs (pass span what fs ps).flows
pass_moves c span what fs ps le asks = pass_zip Moves span what (λ f qs. record {
  index = (run_flow span (what f) f.index qs).index;
  is = refl;
  well = λ w. record { unicast = w.unicast; last = w.last; kind = w.kind; due = run_bound c span (what f) f qs le w (asks f) };
}) fs ps

-- two passes, one after the other
pub zip_twice : {X : Type 0} (P Q R : X → X → Type 0) → ((a b c : X) → P a b → Q b c → R a c) → (xs ys zs : List X) → AllZip P xs ys → AllZip Q ys zs → AllZip R xs zs
zip_twice P Q R both [] [] [] p q = tt
zip_twice P Q R both (x ∷ xs) (y ∷ ys) (z ∷ zs) p q = (both x y z p.0 q.0, zip_twice P Q R both xs ys zs p.1 q.1)
zip_twice P Q R both [] [] (z ∷ zs) p q = absurd q
zip_twice P Q R both [] (y ∷ ys) zs p q = absurd p
zip_twice P Q R both (x ∷ xs) [] zs p q = absurd p
zip_twice P Q R both (x ∷ xs) (y ∷ ys) [] p q = absurd q

-- the flow that a moved one was, and the one that it becomes
moved_from : (fs gs : List FlowRow) (g : FlowRow) → AllZip Moves fs gs → Has gs g → (f : FlowRow) × Has fs f × Moves f g
moved_from [] [] g z h = absurd h
moved_from [] (y ∷ gs) g z h = absurd z
moved_from (x ∷ fs) [] g z h = absurd z
moved_from (x ∷ fs) (y ∷ gs) g z (inl e) = (x, inl refl, subst (Moves x) e z.0)
moved_from (x ∷ fs) (y ∷ gs) g z (inr h) = let m = moved_from fs gs g z.1 h in (m.0, inr m.1, m.2)

moved_to : (fs gs : List FlowRow) (f : FlowRow) → AllZip Moves fs gs → Has fs f → (g : FlowRow) × Has gs g × Moves f g
moved_to [] [] f z h = absurd h
moved_to [] (y ∷ gs) f z h = absurd z
moved_to (x ∷ fs) [] f z h = absurd z
moved_to (x ∷ fs) (y ∷ gs) f z (inl e) = (y, inl refl, subst (λ (v : FlowRow). Moves v y) e z.0)
moved_to (x ∷ fs) (y ∷ gs) f z (inr h) = let m = moved_to fs gs f z.1 h in (m.0, inr m.1, m.2)

rising_moved : (low : ℕ) (fs gs : List FlowRow) → AllZip Moves fs gs → RisingFrom low fs → RisingFrom low gs
rising_moved low [] [] z r = tt
rising_moved low [] (y ∷ gs) z r = absurd z
rising_moved low (x ∷ fs) [] z r = absurd z
rising_moved low (x ∷ fs) (y ∷ gs) z r =
    let same : y.sid ≡ x.sid = ap (λ (v : FlowRow). v.sid) z.0.is in
    (omega (arith, r.0), subst (λ n. RisingFrom (n + 1) gs) (sym same) (rising_moved (x.sid + 1) fs gs z.1 r.1))

-- ---- what holds of the placements, kept by each one that is added

module _ (K : List Placement → Type 0) where
  abbrev KeptIn : Ran → Type 0
  KeptIn ran = K ran.placements

  run_keeps : (span : Extent) (p : Periodic) → ((ps : List Placement) (i x : ℕ) → K ps → verdict span ps p i ≡ Placed x → K (ps ++ placement_at p i x ∷ [])) → (k i : ℕ) (ps : List Placement) → K ps → K (run_due_times span p k i ps).placements
  run_keeps span p more zero i ps h = h
  run_keeps span p more (suc k) i ps h =
      elim (verdict span ps p i) as (λ v. verdict span ps p i ≡ v → KeptIn (elim v [ Missed ↦ run_due_times span p k (i + 1) ps | Placed x ↦ run_due_times span p k (i + 1) (ps ++ placement_at p i x ∷ []) | Kept ↦ record { placements = ps; index = i } ])) [
        | Missed ↦ λ e. run_keeps span p more k (i + 1) ps h
        | Placed x ↦ λ e. run_keeps span p more k (i + 1) (ps ++ placement_at p i x ∷ []) (more ps i x h e)
        | Kept ↦ λ e. h
      ] refl

  flow_keeps : (span : Extent) (o : Option Periodic) (i : ℕ) → ((p : Periodic) → o ≡ Some p → (ps : List Placement) (j x : ℕ) → K ps → verdict span ps p j ≡ Placed x → K (ps ++ placement_at p j x ∷ [])) → (ps : List Placement) → K ps → K (run_flow span o i ps).placements
  flow_keeps span None i more ps h = h
  flow_keeps span (Some p) i more ps h = run_keeps span p (more p refl) (due_before p i (end_of span)) i ps h

  pub pass_keeps : (span : Extent) (what : FlowRow → Option Periodic) (fs : List FlowRow)
      → ((f : FlowRow) → Has fs f → (p : Periodic) → what f ≡ Some p → (ps : List Placement) (j x : ℕ) → K ps → verdict span ps p j ≡ Placed x → K (ps ++ placement_at p j x ∷ []))
      → (ps : List Placement) → K ps → K (pass span what fs ps).placements
  pass_keeps span what [] more ps h = h
  pass_keeps span what (f ∷ fs) more ps h =
      pass_keeps span what fs (λ g k. more g (inr k)) (run_flow span (what f) f.index ps).placements (flow_keeps span (what f) f.index (more f (inl refl)) ps h)

  pub requests_keep : (span : Extent) (c : Channel) (keep : ℕ) (last : ℕ → ℕ) (ws : List Waiting)
      → ((w : Waiting) → Has ws w → (ps : List Placement) (x : ℕ) → K ps → IsRequestFit span ps keep w.n (last w.sid) x → K (ps ++ placement_for c w x ∷ []))
      → (ps : List Placement) → K ps → K (place_requests span c keep last ws ps)
  requests_keep span c keep last [] more ps h = h
  requests_keep span c keep last (w ∷ ws) more ps h =
      elim (request_fit span keep last w ps) as (λ o. request_fit span keep last w ps ≡ o → K (elim o [ Some x ↦ place_requests span c keep last ws (ps ++ placement_for c w x ∷ []) | None ↦ place_requests span c keep last ws ps ])) [
        | Some x ↦ λ e. requests_keep span c keep last ws (λ v k. more v (inr k)) (ps ++ placement_for c w x ∷ []) (more w (inl refl) ps x h (request_tells span keep last w ps x e))
        | None ↦ λ e. requests_keep span c keep last ws (λ v k. more v (inr k)) ps h
      ] refl

-- the requests in order are those that wait
pub in_order_has : (t : Table) (ws : List Waiting) (w : Waiting) → Has (in_order t ws) w → Has ws w
in_order_has t ws w h =
    let m = has_flat_map (λ priority. filter (λ v. eqb (priority_of t v) priority) ws) (7 ∷ 6 ∷ 5 ∷ 4 ∷ 3 ∷ 2 ∷ 1 ∷ 0 ∷ []) w h in
    (has_filter (λ v. eqb (priority_of t v) m.0) ws w m.2).0

-- the placement is at due time number i of a flow of its SID, from the due time to jitter after it
pub record IsDueOf (t : Table) (span : Extent) (q : Placement) (i : ℕ) : Type 0 where
  pub flow : FlowRow
  pub there : Has t.flows flow
  pub sid : flow.sid ≡ q.sid
  pub periodic : Periodic
  pub of : IsOfFlow t.row.channel flow periodic
  pub size : q.size ≡ periodic.size
  pub iuc : q.iuc ≡ periodic.iuc
  pub not_early : due_at periodic i ≤ span.start + q.offset
  pub not_late : span.start + q.offset ≤ due_at periodic i + periodic.jitter

-- what a placement serves: a due time, or a request whole, by the use of its size
abbrev pub IsFor : Table → Extent → Placement → Cause → Type 0
IsFor t span q (Window i) = IsDueOf t span q i
IsFor t span q (Sent s) = (w : Waiting) × Has t.waiting w × (w.sid ≡ q.sid) × (w.n ≡ q.size) × (w.sent ≡ s) × (q.iuc ≡ grant_iuc t.row.channel q.size)

-- the placement ends within the lease of its SID's flow
abbrev pub IsLeased : Table → Extent → Placement → Type 0
IsLeased t span q = (f : FlowRow) × Has t.flows f × (f.sid ≡ q.sid) × (span.start + q.offset + q.size ≤ f.last + 1)

-- a placement that may be added to these
pub record MayPlace (t : Table) (span : Extent) (ps : List Placement) (q : Placement) : Type 0 where
  pub lease_end : ℕ
  pub fit : Fit span ps q.size lease_end q.offset
  pub some : 1 ≤ q.size
  pub most : q.size ≤ 255
  pub unicast : 1 ≤ q.sid
  pub last : q.sid ≤ last_sid
  pub iuc : IsUse q.iuc
  pub serves : IsFor t span q q.cause
  pub leased : IsLeased t span q
  pub use_is : IsUseFor t.row.channel.phy q.cause q.iuc

may_place_due : (t : Table) (span : Extent) (ps : List Placement) (p : Periodic) (i x : ℕ) (f : FlowRow) → IsWellFlow f → Has t.flows f → IsOfFlow t.row.channel f p → verdict span ps p i ≡ Placed x → MayPlace t span ps (placement_at p i x)
may_place_due t span ps p i x f w h of e =
    let well = well_periodic t.row.channel f p w of in
    let fit = placed_fit span ps p i x e in
    let tells = placed_tells span ps p i x e in
    let early = tells.not_early in
    record {
      lease_end = p.last;
      fit = fit;
      some = well.some;
      most = well.most;
      unicast = well.unicast;
      last = well.last;
      iuc = plain_due _ p.iuc well.iuc;
      serves = record { flow = f; there = h; sid = sym of.sid; periodic = p; of = of; size = refl; iuc = refl; not_early = omega arith; not_late = tells.not_late };
      leased = (f, h, sym of.sid, let in_lease = fit.in_lease in let last = of.last in omega arith);
      use_is = well.iuc;
    }

may_place_request : (t : Table) (span : Extent) (ps : List Placement) (w : Waiting) (x : ℕ) → IsWell t → Has t.waiting w → Fit span ps w.n (last_of t w.sid) x → MayPlace t span ps (placement_for t.row.channel w x)
may_place_request t span ps w x well h fit =
    let r = well.requests w h in
    let f = well.flows r.flow r.there in
    let found : flow_of t w.sid ≡ Some r.flow = ap (flow_of t) (sym r.sid) ∙ flow_found t r.flow well.rising r.there in
    let ends : last_of t w.sid ≡ r.flow.last = ap last_in found in
    record {
      lease_end = last_of t w.sid;
      fit = fit;
      some = r.some;
      most = r.most;
      unicast = subst (λ n. 1 ≤ n) r.sid f.unicast;
      last = subst (λ n. n ≤ last_sid) r.sid f.last;
      iuc = plain_requested _ _ (grant_use t.row.channel w.n);
      serves = (w, h, refl, refl, refl, refl);
      leased = (r.flow, r.there, r.sid, let in_lease = fit.in_lease in omega arith);
      use_is = grant_use t.row.channel w.n;
    }

-- what each placement at a due time keeps, and no placements have, holds of all that comes by itself
pub windows_keep : (K : List Placement → Type 0) (t : Table) (span : Extent) → ((p : Periodic) (ps : List Placement) (j x : ℕ) → K ps → verdict span ps p j ≡ Placed x → K (ps ++ placement_at p j x ∷ []))
    → K [] → K (fill_windows t span).placements
windows_keep K t span more none =
    let c : Channel = t.row.channel in
    let first : Passed = fill_grants t span in
    let second : Passed = fill_polls t span first in
    let granted : K first.placements = pass_keeps K span (grants_of_flow c) t.flows (λ f h p e ps j x k v. more p ps j x k v) [] none in
    let polled : K second.placements = pass_keeps K span (polls_of_flow c) first.flows (λ f h p e ps j x k v. more p ps j x k v) first.placements granted in
    pass_keeps K span (maintenance_of_flow c) second.flows (λ f h p e ps j x k v. more p ps j x k v) second.placements polled

-- flows before and after two passes
moves_on : (f g h : FlowRow) → Moves f g → Moves g h → Moves f h
moves_on f g h m n = record { index = n.index; is = n.is ∙ ap (λ (x : FlowRow). record x { index = n.index }) m.is; well = λ w. n.well (m.well w) }

grants_move : (t : Table) (span : Extent) → end_of span ≤ last_time → AllZip Moves t.flows (fill_grants t span).flows
grants_move t span le = pass_moves t.row.channel span (grants_of_flow t.row.channel) t.flows [] le (grants_of t.row.channel)

polls_move : (t : Table) (span : Extent) → end_of span ≤ last_time → AllZip Moves t.flows (fill_polls t span (fill_grants t span)).flows
polls_move t span le =
    let first : Passed = fill_grants t span in
    zip_twice Moves Moves Moves moves_on t.flows first.flows (fill_polls t span first).flows (grants_move t span le)
    (pass_moves t.row.channel span (polls_of_flow t.row.channel) first.flows first.placements le (polls_of t.row.channel))

pub fill_moves : (t : Table) (span : Extent) → end_of span ≤ last_time → AllZip Moves t.flows (flows_served t span)
fill_moves t span le =
    let second : Passed = fill_polls t span (fill_grants t span) in
    zip_twice Moves Moves Moves moves_on t.flows second.flows (flows_served t span) (polls_move t span le)
    (pass_moves t.row.channel span (maintenance_of_flow t.row.channel) second.flows second.placements le (maintenance_of t.row.channel))

-- what holds of no placements, and is kept by each that may be added, holds of a filled MAP
module _ (K : List Placement → Type 0) (t : Table) (span : Extent) (s : CutSettings) (w : IsWell t) (le : end_of span ≤ last_time)
    (more : (ps : List Placement) (q : Placement) → K ps → MayPlace t span ps q → K (ps ++ q ∷ [])) where
  -- a pass over the table's flows with other due times
  moved_keeps : (what : FlowRow → Option Periodic) → Asks t.row.channel what → (fs : List FlowRow) → AllZip Moves t.flows fs → (ps : List Placement) → K ps → K (pass span what fs ps).placements
  moved_keeps what asks fs moves ps k =
      pass_keeps K span what fs (λ g h p e qs i x l v.
      let m = moved_from t.flows fs g moves h in
      let of = subst (λ (f : FlowRow). IsOfFlow t.row.channel f p) m.2.is (asks g p e) in
      more qs (placement_at p i x) l (may_place_due t span qs p i x m.0 (w.flows m.0 m.1) m.1 (record { sid = of.sid; last = of.last; is = of.is }) v)) ps k

  pub fill_keeps : K [] → K (fill_span t span s).placements
  fill_keeps none =
      let c : Channel = t.row.channel in
      let first : Passed = fill_grants t span in
      let second : Passed = fill_polls t span first in
      let granted : K first.placements = pass_keeps K span (grants_of_flow c) t.flows
      (λ f h p e ps i x k v. more ps (placement_at p i x) k (may_place_due t span ps p i x f (w.flows f h) h (grants_of c f p e) v)) [] none in
      let polled : K second.placements = moved_keeps (polls_of_flow c) (polls_of c) first.flows (grants_move t span le) first.placements granted in
      let maintained : K (fill_windows t span).placements = moved_keeps (maintenance_of_flow c) (maintenance_of c) second.flows (polls_move t span le) second.placements polled in
      requests_keep K span c s.keep (last_of t) (in_order t t.waiting) (λ r h ps x k fit. more ps (placement_for c r x) k (may_place_request t span ps r x w (in_order_has t t.waiting r h) fit.fit)) (fill_windows t span).placements maintained

-- ---- the table after a MAP

-- a cut that isn't refused
pub record IsCut (t : Table) (s : CutSettings) : Type 0 where
  pub some : 1 ≤ s.len
  pub most : s.len ≤ most_minislots
  pub end : end_of (span_of t.row s.len s.not_before) ≤ last_time
  pub limits : are_within_limits s ≡ true

pub is_cut : (t : Table) (s : CutSettings) → fill_refusal t.row s ≡ None → IsCut t s
is_cut t s e =
    let good = test _ e in
    let five = and_parts _ _ good in
    let four = and_parts _ _ five.0 in
    let three = and_parts _ _ four.0 in
    let two = and_parts _ _ three.0 in
    let one = and_parts _ _ two.0 in
    record { some = leb-true _ _ one.0; most = leb-true _ _ one.1; end = leb-true _ _ four.1; limits = five.1 }
  where
    test : (b : Bool) → cond b None (Some BadValue) ≡ None → b ≡ true
    test true f = refl
    test false f = absurd cc

-- what a flow before becomes, but for its due time
pub record Becomes (f g : FlowRow) : Type 0 where
  pub sid : g.sid ≡ f.sid
  pub first : g.first ≡ f.first
  pub last : g.last ≡ f.last
  pub lease : lease_in g ≡ lease_in f
  pub kind : g.kind ≡ f.kind
  pub last_sent : g.last_sent ≡ f.last_sent

becomes : (f g : FlowRow) → Moves f g → Becomes f g
becomes f g m = record {
  sid = ap (λ (x : FlowRow). x.sid) m.is;
  first = ap (λ (x : FlowRow). x.first) m.is;
  last = ap (λ (x : FlowRow). x.last) m.is;
  lease = ap (λ (x : FlowRow). lease_in x) m.is;
  kind = ap (λ (x : FlowRow). x.kind) m.is;
  last_sent = ap (λ (x : FlowRow). x.last_sent) m.is;
}

pub served_from : (t : Table) (flows : List FlowRow) (h : FlowRow) → AllZip Moves t.flows flows → Has flows h → (f : FlowRow) × Has t.flows f × Becomes f h
served_from t flows h moves at = let m = moved_from t.flows flows h moves at in (m.0, m.1, becomes m.0 h m.2)

stays : (end : ℕ) (f : FlowRow) → not (is_ended end f) ≡ true → end ≤ f.last
stays end f e = ltb-false f.last end (not-true (is_ended end f) e)

-- the flow that a flow after the MAP was before it; its lease goes on to the MAP's end
pub flow_from : (t : Table) (span : Extent) (s : CutSettings) (h : FlowRow) → end_of span ≤ last_time → Has (fill_span t span s).flows h → (f : FlowRow) × Has t.flows f × Becomes f h × (end_of span ≤ h.last)
flow_from t span s h le at =
    let left = has_filter (λ g. not (is_ended (end_of span) g)) (flows_served t span) h at in
    let from = served_from t (flows_served t span) h (fill_moves t span le) left.0 in
    (from.0, from.1, from.2, stays (end_of span) h left.1)

fill_is_well : (t : Table) (span : Extent) (s : CutSettings) → IsWell t → t.row.next_start ≤ span.start → end_of span ≤ last_time → IsWell (table_after t (fill_span t span s))
fill_is_well t span s w later le =
    let f : Filled = fill_span t span s in
    let goes_on : FlowRow → Bool = λ g. not (is_ended (end_of span) g) in
    let waits_on : Waiting → Bool = λ v. not (has_ended t (end_of span) v) in
    let waits : Waiting → Bool = λ v. not (list_any (is_grant_of v) f.placements) in
    let m = fill_moves t span le in
    let old_ack = w.ack in
    let served = flows_served t span in
    record {
      channel = w.channel;
      next = le;
      ack = omega arith;
      order = w.order;
      sids = w.sids;
      flows = λ g h. let from = moved_from t.flows served g m (has_filter goes_on served g h).0 in from.2.well (w.flows from.0 from.1);
      rising = rising_filter goes_on 1 served (rising_moved 1 t.flows served m w.rising);
      given = λ g h.
          let from = flow_from t span s g le h in
          record {
            lease = ap (λ n. find (is_of_sid n) t.leases) from.2.sid ∙ (w.given from.0 from.1).lease ∙ ap (λ (l : Lease). Some l) (sym from.2.lease);
            goes_on = from.3;
          };
      leases = λ l h. let old = w.leases l h in let begun = old.begun in record { unicast = old.unicast; last = old.last; begun = omega arith; whole = old.whole; ended = old.ended };
      requests = λ r h.
          let left = has_filter waits_on (filter waits t.waiting) r h in
          let old = w.requests r (has_filter waits t.waiting r left.0).0 in
          let moved = moved_to t.flows served old.flow m old.there in
          let to = becomes old.flow moved.0 moved.2 in
          let on : goes_on moved.0 ≡ true = ap (λ n. not (ltb n (end_of span))) to.last ∙ ap not (sym (ended_with t (end_of span) r old.flow w.rising old.there old.sid)) ∙ left.1 in
          record {
            some = old.some;
            most = old.most;
            time = old.time;
            flow = moved.0;
            there = filter_has goes_on served moved.0 moved.1 on;
            sid = to.sid ∙ old.sid;
            last = to.last_sent ∙ old.last;
            after = subst (λ n. n ≤ r.sent) (sym to.first) old.after;
            before = subst (λ n. r.sent ≤ n) (sym to.last) old.before;
            asks = ap takes_no_requests to.kind ∙ old.asks;
          };
      alone = λ sid.
          let left = filter_both (is_of sid) waits_on (filter waits t.waiting) in
          let less = filter_both (is_of sid) waits t.waiting in
          let one = w.alone sid in
          omega arith;
      few =
          let left = filter_fewer waits_on (filter waits t.waiting) in
          let less = filter_fewer waits t.waiting in
          let most = w.few in
          omega arith;
    }

pub cut_is_well : (t : Table) (s : CutSettings) → fill_refusal t.row s ≡ None → IsWell t → IsWell (table_after t (fill t s))
cut_is_well t s ok w =
    let cut = is_cut t s ok in
    fill_is_well t (span_of t.row s.len s.not_before) s w (omega arith) cut.end
