-- What a filled MAP is made of, and its flows as they are lent.
use Rattle.std.proofs.Common.{◌≡◌, ℕ, ◌+◌, ◌-◌, ◌/◌, ◌≤◌, Bool, true, false, cond, ◌&&◌, ltb, inl, inr, List, [], ◌∷◌}
use Rattle.std.proofs.Common.{◌++◌, map, filter, eqb, Option, Some, None, refl, sym, ap, subst, ◌∙◌}
use Rattle.std.specs.List.{AllByRecursion, AllZip, flat_map}
use Rattle.std.specs.Option.{option_map, option_map_or}
use Rattle.std.proofs.lemmas.Bool.{and_parts}
use Rattle.std.proofs.lemmas.List.{map-append}
use Rattle.minislot_time.specs.Extent.{Extent}
use Rattle.flow_state.specs.declared.channel.Channel.{Channel}
use Rattle.flow_state.specs.declared.flow.Flow.{Flow}
use Rattle.flow_state.specs.declared.flow.FlowKind.{FlowKind}
use Rattle.flow_state.specs.declared.flow.FlowKind.TheVariants.{BestEffort, Ugs, Poll, Station, Initial}
use Rattle.flow_state.specs.declared.flow.Waiting.{Waiting}
use Rattle.flow_state.specs.Limits.{last_sid, last_time, is_good_kind, due_time, due_index}
use Rattle.flow_state.specs.Rows.{Table, FlowRow, is_due, due_flows, lent_flow, last_in, last_of}
use Rattle.grant_machine_parts.specs.declared.services.Service.{Service}
use Rattle.grant_machine_parts.specs.declared.services.Service.TheVariants.{Grants, Polls, Maintenance}
use Rattle.grant_machine_parts.specs.declared.placing.Placement.{Placement}
use Rattle.grant_machine_parts.specs.declared.settings.CutSettings.{CutSettings}
use Rattle.grant_machine_parts.specs.Cutting.{kind_priority, flow_priority, priority_of, Passed, Ran, pass, in_order}
use Rattle.grant_machine_parts.specs.Cutting.{place_requests, fill_span, fill_grants, fill_polls, fill_windows, due_at}
use Rattle.grant_machine_parts.specs.Cutting.{end_of, run_due_times, run_flow, with_first, flows_served}
use Rattle.grant_machine_parts.specs.declared.due_times.Periodic.{Periodic}
use Rattle.grant_machine_parts.specs.Filling.{PartMap}
use Rattle.grant_machine_parts.specs.Lent.{IsLent, IsUnicast, given_to}
use Rattle.grant_machine_parts.specs.Ranks.{of_priority, by_priority, requests_in, IsOfLast}
use Rattle.grant_machine_parts.specs.declared.waiting.Ranked.{Ranked}
use Rattle.grant_machine.specs.CutRows.{IsOfTable, IsReachedTable, was_due, due_ones, rank_in}
use Rattle.flow_state.proofs.Callers.{Has, all_has, has_all, map_has, has_map, has_filter, has_flat_map, flow_found}
use Rattle.flow_state.proofs.Callers.{filter_alike, number_is, some_interval}
use Rattle.flow_state.proofs.Callers.{IsWell, IsWellFlow}
use Rattle.flow_state.specs.View.{flow_view}
use Rattle.grant_machine.proofs.Reached.{reached_is_well}
use Rattle.grant_machine_parts.proofs.Callers.{Asks, due_is, grants_of, in_order_has, maintenance_of, polls_of, timed}
use Rattle.grant_machine_parts.proofs.Callers.{zip_twice}
use Rattle.grant_machine.proofs.Standing.{IsIdle, idle, reached_idle}

-- the number of a due time is its own
round_kind : (sid : ℕ) (kind : FlowKind) (i : ℕ) → is_good_kind kind ≡ true → idle kind i → due_index kind (due_time kind i) ≡ i
round_kind sid (BestEffort priority) i good h = sym h
round_kind sid (Ugs size interval jitter base) i good h = number_is base interval i (some_interval interval jitter base (and_parts _ _ good).1)
round_kind sid (Poll interval jitter base) i good h = number_is base interval i (some_interval interval jitter base good)
round_kind sid (Station size interval jitter base) i good h = number_is base interval i (some_interval interval jitter base (and_parts _ _ good).1)
round_kind sid (Initial size interval jitter base) i good h = number_is base interval i (some_interval interval jitter base (and_parts _ _ good).1)

-- a flow's row is what it was lent from
pub row_back : (f : FlowRow) → IsWellFlow f → IsIdle f → flow_view (lent_flow f) ≡ f
row_back f w h = ap (λ i. record f { index = i }) (round_kind f.sid f.kind f.index w.kind h)

lent_one : (f : FlowRow) → IsWellFlow f → IsIdle f → IsLent (lent_flow f)
lent_one f w h = record {
  sid = w.last;
  kind = w.kind;
  due = ap (due_time f.kind) (sym (round_kind f.sid f.kind f.index w.kind h));
  early = w.due;
}

-- ---- the flows that are due

-- a flow of the table is the one of its SID
was_here : (t : Table) (end : ℕ) → IsWell t → (f : FlowRow) → Has t.flows f → was_due t end f ≡ is_due end f
was_here t end w f h = ap (λ (o : Option FlowRow). option_map_or (is_due end) o false) (flow_found t f w.rising h)

well_of : (t : Table) → IsReachedTable t → IsWell t
well_of t r = reached_is_well r.rows r.reached r.channel t r.found

-- a flow that is due is a row that may be lent
due_row : (t : Table) (end : ℕ) → IsReachedTable t → (f : FlowRow) → Has (due_flows end t.flows) f → IsWellFlow f × IsIdle f
due_row t end r f h =
    let there = (has_filter (is_due end) t.flows f h).0 in
    ((well_of t r).flows f there, has_all IsIdle t.flows f (reached_idle r.rows r.reached r.channel t r.found) there)

-- what is lent of them
pub due_lent : (t : Table) (end : ℕ) → IsReachedTable t → AllByRecursion IsLent (map lent_flow (due_flows end t.flows))
due_lent t end r = all_has IsLent (map lent_flow (due_flows end t.flows)) (λ l h.
    let m = has_map lent_flow (due_flows end t.flows) l h in
    let row = due_row t end r m.0 m.1 in
    subst IsLent m.2 (lent_one m.0 row.0 row.1))

pub due_back : (t : Table) (end : ℕ) → IsReachedTable t → map flow_view (map lent_flow (due_flows end t.flows)) ≡ due_ones t end t.flows
due_back t end r =
    back (due_flows end t.flows) (λ f h. let row = due_row t end r f h in row_back f row.0 row.1)
    ∙ filter_alike (is_due end) (was_due t end) t.flows (λ f h. sym (was_here t end (well_of t r) f h))
  where
    back : (fs : List FlowRow) → ((f : FlowRow) → Has fs f → flow_view (lent_flow f) ≡ f) → map flow_view (map lent_flow fs) ≡ fs
    back [] same = refl
    back (f ∷ fs) same = rw (same f (inl refl), back fs (λ g h. same g (inr h))) refl

-- the requests by the priority of their flows
of_number : (t : Table) (n : ℕ) (ws : List Waiting) → requests_in (of_priority (map (rank_in t) ws) n) ≡ filter (λ w. eqb (priority_of t w) n) ws
of_number t n [] = refl
of_number t n (w ∷ ws) =
    elim (eqb (priority_of t w) n) as (λ b. requests_in (cond b (rank_in t w ∷ of_priority (map (rank_in t) ws) n) (of_priority (map (rank_in t) ws) n)) ≡ cond b (w ∷ filter (λ u. eqb (priority_of t u) n) ws) (filter (λ u. eqb (priority_of t u) n) ws)) [
      | true ↦ ap (λ (us : List Waiting). w ∷ us) (of_number t n ws)
      | false ↦ of_number t n ws
    ]

of_numbers : (t : Table) (ws : List Waiting) (ns : List ℕ) → requests_in (flat_map (of_priority (map (rank_in t) ws)) ns) ≡ flat_map (λ n. filter (λ w. eqb (priority_of t w) n) ws) ns
of_numbers t ws [] = refl
of_numbers t ws (n ∷ ns) =
    map-append (λ (r : Ranked). r.request) (of_priority (map (rank_in t) ws) n) (flat_map (of_priority (map (rank_in t) ws)) ns)
    ∙ ap (λ (us : List Waiting). us ++ requests_in (flat_map (of_priority (map (rank_in t) ws)) ns)) (of_number t n ws)
    ∙ ap (λ (us : List Waiting). filter (λ w. eqb (priority_of t w) n) ws ++ us) (of_numbers t ws ns)

-- the table's requests by priority
abbrev pub ranked_there : Table → List Ranked
ranked_there t = by_priority (map (rank_in t) t.waiting)

pub ordered : (t : Table) → requests_in (ranked_there t) ≡ in_order t t.waiting
ordered t = of_numbers t t.waiting (7 ∷ 6 ∷ 5 ∷ 4 ∷ 3 ∷ 2 ∷ 1 ∷ 0 ∷ [])

-- each has the last minislot of its flow's lease
pub lasts : (t : Table) → AllByRecursion (IsOfLast (last_of t)) (ranked_there t)
lasts t = all_has (IsOfLast (last_of t)) (ranked_there t) (λ r h.
    let by = has_flat_map (of_priority (map (rank_in t) t.waiting)) (7 ∷ 6 ∷ 5 ∷ 4 ∷ 3 ∷ 2 ∷ 1 ∷ 0 ∷ []) r h in
    let one = has_filter (λ (x : Ranked). eqb x.priority by.0) (map (rank_in t) t.waiting) r by.2 in
    let m = has_map (rank_in t) t.waiting r one.0 in
    subst (IsOfLast (last_of t)) m.2 refl)

pub unicast : (t : Table) → IsWell t → (rs : List Ranked) → requests_in rs ≡ in_order t t.waiting → AllByRecursion IsUnicast rs
unicast t w rs is = all_has IsUnicast rs (λ r h.
    let there : Has (in_order t t.waiting) r.request = subst (λ (ws : List Waiting). Has ws r.request) is (map_has (λ (x : Ranked). x.request) rs r h) in
    let asked = w.requests r.request (in_order_has t t.waiting r.request there) in
    subst (λ n. n ≤ last_sid) asked.sid (w.flows asked.flow asked.there).last)

pub requests_unicast : (t : Table) → IsReachedTable t → AllByRecursion IsUnicast (ranked_there t)
requests_unicast t r = unicast t (well_of t r) (ranked_there t) (ordered t)

-- ---- a pass over flows that are due, and over all

-- a flow that wasn't due isn't; and it is left as it is
abbrev NotDue : (FlowRow → Bool) → ℕ → FlowRow → Type 0
NotDue was end f = was f ≡ false → is_due end f ≡ false

abbrev pub Stays : (FlowRow → Bool) → FlowRow → FlowRow → Type 0
Stays was f g = was f ≡ false → g ≡ f

abbrev of_due : (FlowRow → Bool) → Passed → Passed
of_due was p = record { flows = filter was p.flows; placements = p.placements }

-- what isn't due gets nothing
late : (span : Extent) (p : Periodic) (i : ℕ) (ps : List Placement) → ltb (due_at p i) (end_of span) ≡ false → run_flow span (Some p) i ps ≡ record { placements = ps; index = i }
late span p i ps h = ap (λ b. run_due_times span p (cond b ((end_of span - 1 - due_at p i) / p.interval + 1) 0) i ps) h

unserved : (c : Channel) (span : Extent) (what : FlowRow → Option Periodic) → Asks c what → (f : FlowRow) (ps : List Placement) → is_due (end_of span) f ≡ false → run_flow span (what f) f.index ps ≡ record { placements = ps; index = f.index }
unserved c span what asks f ps e = by (what f) refl
  where
    by : (o : Option Periodic) → what f ≡ o → run_flow span o f.index ps ≡ record { placements = ps; index = f.index }
    by None h = refl
    by (Some p) h =
        let of = asks f p h in
        let due : ℕ = due_time f.kind f.index in
        late span p f.index ps (ap (λ d. ltb d (end_of span)) (sym (due_is of f.index)) ∙ ap (λ b. b && ltb due (end_of span)) (sym (timed of)) ∙ e)

module _ (span : Extent) (what : FlowRow → Option Periodic) (was : FlowRow → Bool) (keeps : (f : FlowRow) (i : ℕ) → was (record f { index = i }) ≡ was f)
    (unserved : (f : FlowRow) (ps : List Placement) → is_due (end_of span) f ≡ false → run_flow span (what f) f.index ps ≡ record { placements = ps; index = f.index }) where
  pass_due : (fs : List FlowRow) (ps : List Placement) → AllByRecursion (NotDue was (end_of span)) fs → pass span what (filter was fs) ps ≡ of_due was (pass span what fs ps)
  pass_due [] ps all = refl
  pass_due (f ∷ fs) ps all = by (λ qs. pass_due fs qs all.1) (was f) refl
    where
      by : ((qs : List Placement) → pass span what (filter was fs) qs ≡ of_due was (pass span what fs qs)) → (b : Bool) → was f ≡ b → pass span what (cond b (f ∷ filter was fs) (filter was fs)) ps
          ≡ of_due was (with_first (record f { index = (run_flow span (what f) f.index ps).index }) (pass span what fs (run_flow span (what f) f.index ps).placements))
      by rest true e =
          let ran : Ran = run_flow span (what f) f.index ps in
          let more : Passed = pass span what fs ran.placements in
          ap (with_first (record f { index = ran.index })) (rest ran.placements)
          ∙ ap (λ b. record { flows = cond b (record f { index = ran.index } ∷ filter was more.flows) (filter was more.flows); placements = more.placements }) (sym (keeps f ran.index ∙ e))
      by rest false e =
          let ran : Ran = run_flow span (what f) f.index ps in
          let more : Passed = pass span what fs ran.placements in
          rest ps
          ∙ ap (λ (qs : List Placement). of_due was (pass span what fs qs)) (sym (ap (λ (r : Ran). r.placements) (unserved f ps (all.0 e))))
          ∙ ap (λ b. record { flows = cond b (record f { index = ran.index } ∷ filter was more.flows) (filter was more.flows); placements = more.placements }) (sym (keeps f ran.index ∙ e))

  pass_stays : (fs : List FlowRow) (ps : List Placement) → AllByRecursion (NotDue was (end_of span)) fs → AllZip (Stays was) fs (pass span what fs ps).flows
  pass_stays [] ps all = tt
  pass_stays (f ∷ fs) ps all =
      ((λ e. ap (λ i. record f { index = i }) (ap (λ (r : Ran). r.index) (unserved f ps (all.0 e)))), pass_stays fs (run_flow span (what f) f.index ps).placements all.1)

  pass_not_due : (fs : List FlowRow) (ps : List Placement) → AllByRecursion (NotDue was (end_of span)) fs → AllByRecursion (NotDue was (end_of span)) (pass span what fs ps).flows
  pass_not_due [] ps all = tt
  pass_not_due (f ∷ fs) ps all = (
    (λ e.
        let before : was f ≡ false = sym (keeps f (run_flow span (what f) f.index ps).index) ∙ e in
        ap (λ i. is_due (end_of span) (record f { index = i })) (ap (λ (r : Ran). r.index) (unserved f ps (all.0 before))) ∙ all.0 before),
    pass_not_due fs (run_flow span (what f) f.index ps).placements all.1,
  )

-- the flows of a table
abbrev was : Table → Extent → FlowRow → Bool
was t span f = was_due t (end_of span) f

not_due : (t : Table) (span : Extent) → IsWell t → AllByRecursion (NotDue (was t span) (end_of span)) t.flows
not_due t span w = all_has (NotDue (was t span) (end_of span)) t.flows (λ f h e. sym (was_here t (end_of span) w f h) ∙ e)

-- what a service asks of flows is theirs
asks_given : (service : Service) (c : Channel) → Asks c (given_to service c)
asks_given Grants c = grants_of c
asks_given Polls c = polls_of c
asks_given Maintenance c = maintenance_of c

-- the flows of a table before and after each service
module _ (t : Table) (span : Extent) (w : IsWell t) where
  abbrev AreNotDue : List FlowRow → Type 0
  AreNotDue fs = AllByRecursion (NotDue (was t span) (end_of span)) fs

  abbrev serve_all : Service → Passed → Passed
  serve_all service before = pass span (given_to service t.row.channel) before.flows before.placements

  service_stays : (service : Service) (before : Passed) → AreNotDue before.flows → AllZip (Stays (was t span)) before.flows (serve_all service before).flows
  service_stays service before none =
      pass_stays span (given_to service t.row.channel) (was t span) (λ f i. refl) (unserved t.row.channel span (given_to service t.row.channel) (asks_given service t.row.channel)) before.flows before.placements none

  service_not_due : (service : Service) (before : Passed) → AreNotDue before.flows → AreNotDue (serve_all service before).flows
  service_not_due service before none =
      pass_not_due span (given_to service t.row.channel) (was t span) (λ f i. refl) (unserved t.row.channel span (given_to service t.row.channel) (asks_given service t.row.channel)) before.flows before.placements none

  -- a service gives the flows that were due what it gives them among all
  service_due : (service : Service) (before : Passed) → AreNotDue before.flows → (c : Channel) (fs : List Flow) (ps : List Placement) → t.row.channel ≡ c → map flow_view fs ≡ due_ones t (end_of span) before.flows → ps ≡ before.placements
      → pass span (given_to service c) (map flow_view fs) ps ≡ of_due (was t span) (serve_all service before)
  service_due service before none c fs ps row flows placed =
      ap (λ d. pass span (given_to service d) (map flow_view fs) ps) (sym row)
      ∙ ap (λ (gs : List FlowRow). pass span (given_to service t.row.channel) gs ps) flows
      ∙ ap (λ (qs : List Placement). pass span (given_to service t.row.channel) (due_ones t (end_of span) before.flows) qs) placed
      ∙ pass_due span (given_to service t.row.channel) (was t span) (λ f i. refl) (unserved t.row.channel span (given_to service t.row.channel) (asks_given service t.row.channel)) before.flows before.placements none

  abbrev none_served : Passed
  none_served = record { flows = t.flows; placements = [] }

  grants_not_due : AreNotDue (fill_grants t span).flows
  grants_not_due = service_not_due Grants none_served (not_due t span w)

  polls_not_due : AreNotDue (fill_polls t span (fill_grants t span)).flows
  polls_not_due = service_not_due Polls (fill_grants t span) grants_not_due

  twice_stays : (f g h : FlowRow) → Stays (was t span) f g → Stays (was t span) g h → Stays (was t span) f h
  twice_stays f g h a b e = let first = a e in b (ap (was t span) first ∙ e) ∙ first

  -- those that weren't due are served nothing
  all_stay : AllZip (Stays (was t span)) t.flows (flows_served t span)
  all_stay =
      let first : Passed = fill_grants t span in
      let second : Passed = fill_polls t span first in
      let S : FlowRow → FlowRow → Type 0 = Stays (was t span) in
      zip_twice S S S twice_stays t.flows second.flows (flows_served t span)
      (zip_twice S S S twice_stays t.flows first.flows second.flows (service_stays Grants none_served (not_due t span w)) (service_stays Polls first grants_not_due))
      (service_stays Maintenance second polls_not_due)

pub stays_served : (t : Table) (span : Extent) → IsWell t → AllZip (Stays (was_due t (end_of span))) t.flows (flows_served t span)
stays_served t span w = all_stay t span w

-- a service gives so much to flows, from a MAP in part to another one
pub record Serves (service : Service) (c : Channel) (a b : PartMap) (before after : List Flow) : Type 0 where
  pub span : b.span ≡ a.span
  pub placed : b.placements ≡ (pass a.span (given_to service c) (map flow_view before) a.placements).placements
  pub flows : map flow_view after ≡ (pass a.span (given_to service c) (map flow_view before) a.placements).flows

-- what it gives among all flows of the table, where those that were due are given it
record GivesAll (t : Table) (a : PartMap) (b : PartMap) (fs : List Flow) (all : Passed) : Type 0 where
  span : b.span ≡ a.span
  placed : b.placements ≡ all.placements
  flows : map flow_view fs ≡ due_ones t (end_of a.span) all.flows

gives_all : (t : Table) (service : Service) (c : Channel) (a b d : PartMap) (fs gs : List Flow) (before : Passed) (w : IsWell t) → AllByRecursion (NotDue (was t a.span) (end_of a.span)) before.flows → t.row.channel ≡ c
    → GivesAll t a b fs before → Serves service c b d fs gs → GivesAll t a d gs (serve_all t a.span w service before)
gives_all t service c a b d fs gs before w none row given serves =
    let same : pass b.span (given_to service c) (map flow_view fs) b.placements ≡ of_due (was t a.span) (serve_all t a.span w service before) =
    ap (λ (s : Extent). pass s (given_to service c) (map flow_view fs) b.placements) given.span ∙ service_due t a.span w service before none c fs b.placements row given.flows given.placed in
    record { span = serves.span ∙ given.span; placed = serves.placed ∙ ap (λ (p : Passed). p.placements) same; flows = serves.flows ∙ ap (λ (p : Passed). p.flows) same }

-- three services and then the requests fill a MAP
pub parts_filled : (t : Table) (asks : CutSettings) (c : Channel) (a b d e f : PartMap) (f0 f1 f2 f3 : List Flow) (rs : List Ranked) → IsOfTable t (end_of a.span) c f0 rs → a.placements ≡ []
    → Serves Grants c a b f0 f1 → Serves Polls c b d f1 f2 → Serves Maintenance c d e f2 f3
    → ((last : ℕ → ℕ) → AllByRecursion (IsOfLast last) rs → f.placements ≡ place_requests e.span c asks.keep last (requests_in rs) e.placements)
    → (f.placements ≡ (fill_span t a.span asks).placements) × (map flow_view f3 ≡ due_ones t (end_of a.span) (flows_served t a.span))
parts_filled t asks c a b d e f f0 f1 f2 f3 rs of empty grants polls maintenance placed =
    let w : IsWell t = well_of t of.reached in
    let start : GivesAll t a a f0 (none_served t a.span w) = record { span = refl; placed = empty; flows = of.flows_are } in
    let first = gives_all t Grants c a a b f0 f1 (none_served t a.span w) w (not_due t a.span w) of.channel start grants in
    let second = gives_all t Polls c a b d f1 f2 (fill_grants t a.span) w (grants_not_due t a.span w) of.channel first polls in
    let third = gives_all t Maintenance c a d e f2 f3 (fill_polls t a.span (fill_grants t a.span)) w (polls_not_due t a.span w) of.channel second maintenance in
    let windows : List Placement = (fill_windows t a.span).placements in
    let keep : ℕ = asks.keep in (
      placed (last_of t) of.lasts_are
          ∙ ap (λ (s : Extent). place_requests s c keep (last_of t) (requests_in rs) e.placements) third.span
          ∙ ap (λ k. place_requests a.span k keep (last_of t) (requests_in rs) e.placements) (sym of.channel)
          ∙ ap (λ (ws : List Waiting). place_requests a.span t.row.channel keep (last_of t) ws e.placements) of.requests_are
          ∙ ap (λ (ps : List Placement). place_requests a.span t.row.channel keep (last_of t) (in_order t t.waiting) ps) third.placed,
      third.flows,
    )

-- what a flow that is lent tells of a request of its SID
pub rank_some : (o : Option FlowRow) (f : Flow) (w : Waiting) → Some f ≡ option_map lent_flow o → ◌≡◌ {A = Ranked} (record { priority = kind_priority f.kind; last = f.lease.last; request = w }) (record { priority = flow_priority o; last = last_in o; request = w })
rank_some (Some g) f w e = let same : f ≡ lent_flow g = cc in ap {B = Ranked} (λ (x : Flow). record { priority = kind_priority x.kind; last = x.lease.last; request = w }) same
rank_some None f w e = absurd cc

pub rank_none : (o : Option FlowRow) (w : Waiting) → None ≡ option_map lent_flow o → ◌≡◌ {A = Ranked} (record { priority = 0; last = last_time; request = w }) (record { priority = flow_priority o; last = last_in o; request = w })
rank_none (Some g) w e = absurd cc
rank_none None w e = refl
