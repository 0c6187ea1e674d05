-- The grants of a flow that is given minislots at due times, over a MAP.
use Rattle.std.proofs.Common.{◌≡◌, ◌⊎◌, ℕ, ◌≤◌, Bool, true, false, cond, not, List, [], ◌∷◌, ◌++◌, filter, Option, Some}
use Rattle.std.proofs.Common.{None, refl, sym, ap, subst, ◌∙◌, arith, eqb, inl, inr}
use Rattle.std.specs.List.{AllZip, list_any}
use Rattle.std.proofs.lemmas.Bool.{eqb-true}
use Rattle.std.proofs.lemmas.List.{append-nil}
use Rattle.minislot_time.specs.Extent.{Extent}
use Rattle.map_body.specs.Iucs as iucs
use Rattle.flow_state.specs.declared.channel.Channel.{Channel}
use Rattle.flow_state.specs.declared.flow.FlowKind.{FlowKind}
use Rattle.flow_state.specs.declared.flow.FlowKind.TheVariants.{Ugs, Station, Initial}
use Rattle.flow_state.specs.declared.flow.Waiting.{Waiting}
use Rattle.flow_state.specs.Rows.{Table, FlowRow, is_flow, is_of, last_of, is_ended, has_ended}
use Rattle.grant_machine_parts.specs.Placing.{Placement}
use Rattle.grant_machine_parts.specs.Cutting.{Periodic, end_of, Ran, run_due_times, run_flow, due_before, Passed, pass}
use Rattle.grant_machine_parts.specs.Cutting.{grants_of_flow, polls_of_flow, maintenance_of_flow, grants_of_kind}
use Rattle.grant_machine_parts.specs.Cutting.{polls_of_kind, maintenance_of_kind, fill_grants, fill_polls, fill_windows}
use Rattle.grant_machine_parts.specs.Cutting.{request_fit, place_requests, placement_for, in_order, CutSettings, Filled}
use Rattle.grant_machine_parts.specs.Cutting.{fill_span, still_waiting, requests_left, is_grant_of, table_after}
use Rattle.grant_machine_parts.specs.Cutting.{unsolicited_iuc}
use Rattle.flow_state.proofs.Callers.{Has, has_filter, filter_append, filter_sub, filter_swap, eqb_same}
use Rattle.grant_machine_parts.proofs.Fillings.{grants_of, polls_of, maintenance_of}
use Rattle.grant_machine_parts.proofs.Orders.{passing_in_order}
use Rattle.grant_machine_parts.proofs.Windows.{InWindow, Rising, rising_later, run_adds}

abbrev pub is_to : ℕ → Placement → Bool
is_to sid q = eqb q.sid sid

-- placements of due times are to the flow's SID
pub all_to : (span : Extent) (p : Periodic) (sid : ℕ) (qs : List Placement) (is : List ℕ) → p.sid ≡ sid → AllZip (InWindow span p) qs is → filter (is_to sid) qs ≡ qs
all_to span p sid [] [] e z = refl
all_to span p sid [] (i ∷ is) e z = absurd z
all_to span p sid (q ∷ qs) [] e z = absurd z
all_to span p sid (q ∷ qs) (i ∷ is) e z =
    let to : q.sid ≡ sid = ap (λ (r : Placement). r.sid) z.0.is ∙ e in
    let test : eqb q.sid sid ≡ true = ap (λ n. eqb n sid) to ∙ eqb_same sid in
    ap (λ b. cond b (q ∷ filter (is_to sid) qs) (filter (is_to sid) qs)) test ∙ ap (λ (rs : List Placement). q ∷ rs) (all_to span p sid qs is e z.1)

pub none_to : (span : Extent) (p : Periodic) (sid : ℕ) (qs : List Placement) (is : List ℕ) → eqb p.sid sid ≡ false → AllZip (InWindow span p) qs is → filter (is_to sid) qs ≡ []
none_to span p sid [] [] e z = refl
none_to span p sid [] (i ∷ is) e z = absurd z
none_to span p sid (q ∷ qs) [] e z = absurd z
none_to span p sid (q ∷ qs) (i ∷ is) e z =
    let test : eqb q.sid sid ≡ false = ap (λ (r : Placement). eqb r.sid sid) z.0.is ∙ e in
    ap (λ b. cond b (q ∷ filter (is_to sid) qs) (filter (is_to sid) qs)) test ∙ none_to span p sid qs is e z.1

-- a flow of another SID adds nothing to this one's placements
other_flow : (span : Extent) (o : Option Periodic) (i sid : ℕ) (ps : List Placement) → ((p : Periodic) → o ≡ Some p → eqb p.sid sid ≡ false)
    → filter (is_to sid) (run_flow span o i ps).placements ≡ filter (is_to sid) ps
other_flow span None i sid ps other = refl
other_flow span (Some p) i sid ps other =
    let a = run_adds span p (due_before p i (end_of span)) i ps in
    ap (filter (is_to sid)) a.added ∙ filter_append (is_to sid) ps a.more ∙ ap (λ (rs : List Placement). filter (is_to sid) ps ++ rs) (none_to span p sid a.more a.numbers (other p refl) a.each) ∙ append-nil (filter (is_to sid) ps)

-- what a pass asks of a flow is of the flow's SID
abbrev KeepsSid : (FlowRow → Option Periodic) → Type 0
KeepsSid what = (f : FlowRow) (p : Periodic) → what f ≡ Some p → p.sid ≡ f.sid

-- no flow of the SID: nothing is placed for it, and none comes
pub pass_none : (span : Extent) (what : FlowRow → Option Periodic) (sid : ℕ) (fs : List FlowRow) (ps : List Placement) → KeepsSid what → filter (is_flow sid) fs ≡ []
    → (filter (is_flow sid) (pass span what fs ps).flows ≡ []) × (filter (is_to sid) (pass span what fs ps).placements ≡ filter (is_to sid) ps)
pass_none span what sid [] ps keeps none = (refl, refl)
pass_none span what sid (f ∷ fs) ps keeps none =
    by (eqb f.sid sid) refl none (pass_none span what sid fs (run_flow span (what f) f.index ps).placements keeps)
  where
    by : (b : Bool) → eqb f.sid sid ≡ b → cond b (f ∷ filter (is_flow sid) fs) (filter (is_flow sid) fs) ≡ []
        → (filter (is_flow sid) fs ≡ [] → (filter (is_flow sid) (pass span what fs (run_flow span (what f) f.index ps).placements).flows ≡ []) × (filter (is_to sid) (pass span what fs (run_flow span (what f) f.index ps).placements).placements ≡ filter (is_to sid) (run_flow span (what f) f.index ps).placements))
        → (filter (is_flow sid) (pass span what (f ∷ fs) ps).flows ≡ []) × (filter (is_to sid) (pass span what (f ∷ fs) ps).placements ≡ filter (is_to sid) ps)
    by true h e later = absurd cc
    by false h e later =
        let r = later e in (
          ap (λ b. cond b (record f { index = (run_flow span (what f) f.index ps).index } ∷ filter (is_flow sid) (pass span what fs (run_flow span (what f) f.index ps).placements).flows) (filter (is_flow sid) (pass span what fs (run_flow span (what f) f.index ps).placements).flows)) h ∙ r.0,
          r.1 ∙ other_flow span (what f) f.index sid ps (λ p g. ap (λ n. eqb n sid) (keeps f p g) ∙ h),
        )

-- ---- the flow's own pass

-- what a pass leaves of the one flow of the SID, and adds for it
pub record Served (span : Extent) (sid : ℕ) (p : Periodic) (f : FlowRow) (ps : List Placement) (after : Passed) : Type 0 where
  pub index : ℕ
  pub more : List Placement
  pub numbers : List ℕ
  pub flow : filter (is_flow sid) after.flows ≡ record f { index = index } ∷ []
  pub added : filter (is_to sid) after.placements ≡ filter (is_to sid) ps ++ more
  pub each : AllZip (InWindow span p) more numbers
  pub rising : Rising f.index numbers index

first_is : (f g : FlowRow) (fs gs : List FlowRow) → f ∷ fs ≡ g ∷ gs → (f ≡ g) × (fs ≡ gs)
first_is f g fs gs e = (cc, cc)

with_head : (span : Extent) (what : FlowRow → Option Periodic) (sid : ℕ) (f : FlowRow) (fs : List FlowRow) (ps : List Placement) (b : Bool) → eqb f.sid sid ≡ b
    → filter (is_flow sid) (pass span what (f ∷ fs) ps).flows
    ≡ cond b (record f { index = (run_flow span (what f) f.index ps).index } ∷ filter (is_flow sid) (pass span what fs (run_flow span (what f) f.index ps).placements).flows) (filter (is_flow sid) (pass span what fs (run_flow span (what f) f.index ps).placements).flows)
with_head span what sid f fs ps b h =
    ap (λ c. cond c (record f { index = (run_flow span (what f) f.index ps).index } ∷ filter (is_flow sid) (pass span what fs (run_flow span (what f) f.index ps).placements).flows) (filter (is_flow sid) (pass span what fs (run_flow span (what f) f.index ps).placements).flows)) h

-- a pass runs the one flow of the SID behind some placements, which are the SID's as before
pub record IsRun (span : Extent) (what : FlowRow → Option Periodic) (sid : ℕ) (f : FlowRow) (ps : List Placement) (after : Passed) : Type 0 where
  pub behind : List Placement
  pub same : filter (is_to sid) behind ≡ filter (is_to sid) ps
  pub flow : filter (is_flow sid) after.flows ≡ record f { index = (run_flow span (what f) f.index behind).index } ∷ []
  pub placed : filter (is_to sid) after.placements ≡ filter (is_to sid) (run_flow span (what f) f.index behind).placements

pass_one : (span : Extent) (what : FlowRow → Option Periodic) (sid : ℕ) (f : FlowRow) (fs : List FlowRow) (ps : List Placement) → KeepsSid what → filter (is_flow sid) fs ≡ f ∷ [] → IsRun span what sid f ps (pass span what fs ps)
pass_one span what sid f [] ps keeps e = absurd cc
pass_one span what sid f (g ∷ fs) ps keeps e =
    by (eqb g.sid sid) refl e (pass_one span what sid f fs (run_flow span (what g) g.index ps).placements keeps)
  where
    by : (b : Bool) → eqb g.sid sid ≡ b → cond b (g ∷ filter (is_flow sid) fs) (filter (is_flow sid) fs) ≡ f ∷ []
        → (filter (is_flow sid) fs ≡ f ∷ [] → IsRun span what sid f (run_flow span (what g) g.index ps).placements (pass span what fs (run_flow span (what g) g.index ps).placements))
        → IsRun span what sid f ps (pass span what (g ∷ fs) ps)
    by true h e later =
        let parts = first_is g f (filter (is_flow sid) fs) [] e in
        let rest = pass_none span what sid fs (run_flow span (what g) g.index ps).placements keeps parts.1 in
        subst (λ (x : FlowRow). IsRun span what sid x ps (pass span what (g ∷ fs) ps)) parts.0 (record {
          behind = ps;
          same = refl;
          flow = with_head span what sid g fs ps true h ∙ ap (λ (gs : List FlowRow). record g { index = (run_flow span (what g) g.index ps).index } ∷ gs) rest.0;
          placed = rest.1;
        })
    by false h e later =
        let s = later e in
        record {
          behind = s.behind;
          same = s.same ∙ other_flow span (what g) g.index sid ps (λ q i. ap (λ n. eqb n sid) (keeps g q i) ∙ h);
          flow = with_head span what sid g fs ps false h ∙ s.flow;
          placed = s.placed;
        }

-- a pass that asks this of the one flow of the SID, and one that asks nothing
pass_own : (span : Extent) (what : FlowRow → Option Periodic) (sid : ℕ) (p : Periodic) (f : FlowRow) (fs : List FlowRow) (ps : List Placement) → KeepsSid what → what f ≡ Some p → p.sid ≡ sid
    → filter (is_flow sid) fs ≡ f ∷ [] → Served span sid p f ps (pass span what fs ps)
pass_own span what sid p f fs ps keeps is to e =
    let run = pass_one span what sid f fs ps keeps e in
    let k : ℕ = due_before p f.index (end_of span) in
    let ran_is : run_flow span (what f) f.index run.behind ≡ run_due_times span p k f.index run.behind = ap (λ o. run_flow span o f.index run.behind) is in
    let a = run_adds span p k f.index run.behind in
    record {
      index = (run_due_times span p k f.index run.behind).index;
      more = a.more;
      numbers = a.numbers;
      flow = run.flow ∙ ap (λ (r : Ran). record f { index = r.index } ∷ []) ran_is;
      added = run.placed ∙ ap (λ (r : Ran). filter (is_to sid) r.placements) ran_is ∙ ap (filter (is_to sid)) a.added ∙ filter_append (is_to sid) run.behind a.more
          ∙ ap (λ (qs : List Placement). filter (is_to sid) run.behind ++ qs) (all_to span p sid a.more a.numbers to a.each) ∙ ap (λ (qs : List Placement). qs ++ a.more) run.same;
      each = a.each;
      rising = a.rising;
    }

pass_idle : (span : Extent) (what : FlowRow → Option Periodic) (sid : ℕ) (f : FlowRow) (fs : List FlowRow) (ps : List Placement) → KeepsSid what → what f ≡ None
    → filter (is_flow sid) fs ≡ f ∷ [] → (filter (is_flow sid) (pass span what fs ps).flows ≡ f ∷ []) × (filter (is_to sid) (pass span what fs ps).placements ≡ filter (is_to sid) ps)
pass_idle span what sid f fs ps keeps is e =
    let run = pass_one span what sid f fs ps keeps e in
    let idle : run_flow span (what f) f.index run.behind ≡ record { placements = run.behind; index = f.index } = ap (λ o. run_flow span o f.index run.behind) is in
    (run.flow ∙ ap (λ (r : Ran). record f { index = r.index } ∷ []) idle, run.placed ∙ ap (λ (r : Ran). filter (is_to sid) r.placements) idle ∙ run.same)

-- ---- requests of other SIDs

pub requests_none : (span : Extent) (c : Channel) (keep : ℕ) (last : ℕ → ℕ) (sid : ℕ) (ws : List Waiting) (ps : List Placement) → filter (is_of sid) ws ≡ [] → filter (is_to sid) (place_requests span c keep last ws ps) ≡ filter (is_to sid) ps
requests_none span c keep last sid [] ps none = refl
requests_none span c keep last sid (w ∷ ws) ps none =
    by (eqb w.sid sid) refl none (λ qs e. requests_none span c keep last sid ws qs e)
  where
    placed : (b : Bool) → eqb w.sid sid ≡ b → b ≡ false → (x : ℕ) → filter (is_to sid) (ps ++ placement_for c w x ∷ []) ≡ filter (is_to sid) ps
    placed b h off x = filter_append (is_to sid) ps (placement_for c w x ∷ []) ∙ ap (λ t. filter (is_to sid) ps ++ cond t (placement_for c w x ∷ []) []) (h ∙ off) ∙ append-nil (filter (is_to sid) ps)

    by : (b : Bool) → eqb w.sid sid ≡ b → cond b (w ∷ filter (is_of sid) ws) (filter (is_of sid) ws) ≡ []
        → ((qs : List Placement) → filter (is_of sid) ws ≡ [] → filter (is_to sid) (place_requests span c keep last ws qs) ≡ filter (is_to sid) qs)
        → filter (is_to sid) (place_requests span c keep last (w ∷ ws) ps) ≡ filter (is_to sid) ps
    by true h e later = absurd cc
    by false h e later =
        elim (request_fit span keep last w ps) as (λ o. filter (is_to sid) (elim o [ Some x ↦ place_requests span c keep last ws (ps ++ placement_for c w x ∷ []) | None ↦ place_requests span c keep last ws ps ]) ≡ filter (is_to sid) ps) [
          | Some x ↦ later (ps ++ placement_for c w x ∷ []) e ∙ placed false h refl x
          | None ↦ later ps e
        ]

pub in_order_none : (t : Table) (sid : ℕ) (ws : List Waiting) → filter (is_of sid) ws ≡ [] → filter (is_of sid) (in_order t ws) ≡ []
in_order_none t sid ws none = passing_in_order t (is_of sid) ws ∙ ap (in_order t) none

-- ---- one MAP

-- a kind of flow that is given so many minislots at each due time: unsolicited grants, or intervals of maintenance
abbrev pub IsSized : FlowKind → (size interval jitter base : ℕ) → Type 0
IsSized kind size interval jitter base =
    (kind ≡ Ugs size interval jitter base) ⊎ (kind ≡ Station size interval jitter base) ⊎ (kind ≡ Initial size interval jitter base)

-- the table serves the flow from due time number n on, or has dropped it
pub record Serving (t : Table) (sid : ℕ) (kind : FlowKind) (n : ℕ) : Type 0 where
  pub flows : (filter (is_flow sid) t.flows ≡ []) ⊎ ((f : FlowRow) × (filter (is_flow sid) t.flows ≡ f ∷ []) × (f.kind ≡ kind) × (n ≤ f.index))
  pub waiting : filter (is_of sid) t.waiting ≡ []

-- what a filled MAP has for the SID, and what it leaves
pub record FilledFor (t : Table) (f : Filled) (sid : ℕ) (kind : FlowKind) (size interval jitter base n : ℕ) : Type 0 where
  pub next : ℕ
  pub more : List Placement
  pub numbers : List ℕ
  pub iuc : ℕ
  pub last : ℕ
  pub own : filter (is_to sid) f.placements ≡ more
  pub each : AllZip (InWindow f.span (record { sid = sid; iuc = iuc; size = size; interval = interval; jitter = jitter; base = base; last = last })) more numbers
  pub rising : Rising n numbers next
  pub after : Serving (table_after t f) sid kind next

-- of one that passes a test, one or none passes another test too
pub filter_one : {X : Type 0} (p q : X → Bool) (xs : List X) (x : X) → filter p xs ≡ x ∷ [] → (filter p (filter q xs) ≡ []) ⊎ (filter p (filter q xs) ≡ x ∷ [])
filter_one {X} p q xs x e = rw (filter_swap p q xs, e) (elim (q x) as (λ b. (cond b (x ∷ []) [] ≡ []) ⊎ (cond b (x ∷ []) [] ≡ x ∷ [])) [ true ↦ inr refl | false ↦ inl refl ])

module _ (t : Table) (span : Extent) (sid : ℕ) where
  abbrev first : Passed
  first = fill_grants t span

  abbrev second : Passed
  second = fill_polls t span first

  abbrev third : Passed
  third = fill_windows t span

  grants_keep : KeepsSid (grants_of_flow t.row.channel)
  grants_keep f p e = (grants_of t.row.channel f p e).sid

  polls_keep : KeepsSid (polls_of_flow t.row.channel)
  polls_keep f p e = (polls_of t.row.channel f p e).sid

  maintenance_keep : KeepsSid (maintenance_of_flow t.row.channel)
  maintenance_keep f p e = (maintenance_of t.row.channel f p e).sid

  -- no flow of the SID
  windows_none : filter (is_flow sid) t.flows ≡ [] → (filter (is_flow sid) third.flows ≡ []) × (filter (is_to sid) third.placements ≡ [])
  windows_none none =
      let c : Channel = t.row.channel in
      let granted = pass_none span (grants_of_flow c) sid t.flows [] grants_keep none in
      let polled = pass_none span (polls_of_flow c) sid first.flows first.placements polls_keep granted.0 in
      let kept = pass_none span (maintenance_of_flow c) sid second.flows second.placements maintenance_keep polled.0 in
      (kept.0, kept.1 ∙ polled.1 ∙ granted.1)

  -- behind a pass that serves the flow, one that asks nothing of it
  idle_after : (what : FlowRow → Option Periodic) (p : Periodic) (f : FlowRow) (after : Passed) → KeepsSid what → (s : Served span sid p f [] after) → what (record f { index = s.index }) ≡ None
      → Served span sid p f [] (pass span what after.flows after.placements)
  idle_after what p f after keeps s none =
      let idle = pass_idle span what sid (record f { index = s.index }) after.flows after.placements keeps none s.flow in
      record { index = s.index; more = s.more; numbers = s.numbers; flow = idle.0; added = idle.1 ∙ s.added; each = s.each; rising = s.rising }

  -- the one flow of the SID, which is unsolicited grants'
  grants_own : (f : FlowRow) (size interval jitter base : ℕ) → f.sid ≡ sid → f.kind ≡ Ugs size interval jitter base → filter (is_flow sid) t.flows ≡ f ∷ []
      → Served span sid (record { sid = sid; iuc = unsolicited_iuc t.row.channel size; size = size; interval = interval; jitter = jitter; base = base; last = f.last }) f [] third
  grants_own f size interval jitter base here kind one =
      let c : Channel = t.row.channel in
      let asks = ap (grants_of_kind c f.sid f.last) kind ∙ ap (λ (m : ℕ). grants_of_kind c m f.last (Ugs size interval jitter base)) here in
      let served = pass_own span (grants_of_flow c) sid _ f t.flows [] grants_keep asks refl one in
      idle_after (maintenance_of_flow c) _ f second maintenance_keep (idle_after (polls_of_flow c) _ f first polls_keep served (ap (polls_of_kind c f.sid f.last) kind)) (ap (maintenance_of_kind c f.sid f.last) kind)

  -- or maintenance's
  maintenance_own : (f : FlowRow) (p : Periodic) → f.sid ≡ sid → grants_of_flow t.row.channel f ≡ None → polls_of_flow t.row.channel f ≡ None → maintenance_of_flow t.row.channel f ≡ Some p → p.sid ≡ sid
      → filter (is_flow sid) t.flows ≡ f ∷ [] → Served span sid p f [] third
  maintenance_own f p here no_grants no_polls asks to one =
      let c : Channel = t.row.channel in
      let granted = pass_idle span (grants_of_flow c) sid f t.flows [] grants_keep no_grants one in
      let polled = pass_idle span (polls_of_flow c) sid f first.flows first.placements polls_keep no_polls granted.0 in
      let served = pass_own span (maintenance_of_flow c) sid p f second.flows second.placements maintenance_keep asks to polled.0 in
      record {
        index = served.index;
        more = served.more;
        numbers = served.numbers;
        flow = served.flow;
        added = served.added ∙ ap (λ (qs : List Placement). qs ++ served.more) (polled.1 ∙ granted.1);
        each = served.each;
        rising = served.rising;
      }

  -- over all that comes by itself
  windows_own : (f : FlowRow) (kind : FlowKind) (size interval jitter base : ℕ) → IsSized kind size interval jitter base → f.sid ≡ sid → f.kind ≡ kind → filter (is_flow sid) t.flows ≡ f ∷ []
      → (iuc : ℕ) × Served span sid (record { sid = sid; iuc = iuc; size = size; interval = interval; jitter = jitter; base = base; last = f.last }) f [] third
  windows_own f kind size interval jitter base sized here is one =
      let c : Channel = t.row.channel in
      elim sized [
        | inl ugs ↦ (unsolicited_iuc c size, grants_own f size interval jitter base here (is ∙ ugs) one)
        | inr (inl station) ↦
            let asks = ap (maintenance_of_kind c f.sid f.last) (is ∙ station) ∙ ap (λ (m : ℕ). maintenance_of_kind c m f.last (Station size interval jitter base)) here in
            (iucs.station_maintenance, maintenance_own f _ here (ap (grants_of_kind c f.sid f.last) (is ∙ station)) (ap (polls_of_kind c f.sid f.last) (is ∙ station)) asks refl one)
        | inr (inr initial) ↦
            let asks = ap (maintenance_of_kind c f.sid f.last) (is ∙ initial) ∙ ap (λ (m : ℕ). maintenance_of_kind c m f.last (Initial size interval jitter base)) here in
            (iucs.initial_maintenance, maintenance_own f _ here (ap (grants_of_kind c f.sid f.last) (is ∙ initial)) (ap (polls_of_kind c f.sid f.last) (is ∙ initial)) asks refl one)
      ]

pub fills_for : (t : Table) (span : Extent) (s : CutSettings) (sid : ℕ) (kind : FlowKind) (size interval jitter base n : ℕ) → IsSized kind size interval jitter base → Serving t sid kind n
    → FilledFor t (fill_span t span s) sid kind size interval jitter base n
fills_for t span s sid kind size interval jitter base n sized serving =
    let c : Channel = t.row.channel in
    let after : Passed = fill_windows t span in
    let goes_on : FlowRow → Bool = λ f. not (is_ended (end_of span) f) in
    let ps : List Placement = place_requests span c s.keep (last_of t) (in_order t t.waiting) after.placements in
    let asked : filter (is_to sid) ps ≡ filter (is_to sid) after.placements = requests_none span c s.keep (last_of t) sid (in_order t t.waiting) after.placements (in_order_none t sid t.waiting serving.waiting) in
    let waits : filter (is_of sid) (requests_left t span (still_waiting ps t.waiting)) ≡ [] = filter_sub (is_of sid) (λ w. not (has_ended t (end_of span) w)) (still_waiting ps t.waiting)
    (filter_sub (is_of sid) (λ w. not (list_any (is_grant_of w) ps)) t.waiting serving.waiting) in
    elim serving.flows [
      | inl none ↦
          let gone = windows_none t span sid none in
          record {
            next = n;
            more = [];
            numbers = [];
            iuc = 0;
            last = 0;
            own = asked ∙ gone.1;
            each = tt;
            rising = omega arith;
            after = record { flows = inl (filter_sub (is_flow sid) goes_on after.flows gone.0); waiting = waits };
          }
      | inr one ↦
          let f : FlowRow = one.0 in
          let here : f.sid ≡ sid = eqb-true _ _ (has_filter (is_flow sid) t.flows f (subst (λ (fs : List FlowRow). Has fs f) (sym one.1) (inl refl))).1 in
          let own = windows_own t span sid f kind size interval jitter base sized here one.2 one.1 in
          let served = own.1 in
          let g : FlowRow = record f { index = served.index } in
          record {
            next = served.index;
            more = served.more;
            numbers = served.numbers;
            iuc = own.0;
            last = f.last;
            own = asked ∙ served.added;
            each = served.each;
            rising = rising_later n f.index served.numbers served.index one.3 served.rising;
            after = record {
              flows = elim (filter_one (is_flow sid) goes_on after.flows g served.flow) [
                | inl left ↦ inl left
                | inr stays ↦ inr (g, stays, one.2, omega arith)
              ];
              waiting = waits;
            };
          }
    ]
