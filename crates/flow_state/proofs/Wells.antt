-- Each change keeps a table well: times, sizes and SIDs within their limits, flows by SID, and a flow for each waiting request.
use Rattle.std.proofs.Common.{◌≡◌, ◌⊎◌, ℕ, suc, ◌+◌, ◌*◌, ◌<◌, ◌≤◌, Bool, true, false, cond, not, ◌||◌, ◌&&◌, List, []}
use Rattle.std.proofs.Common.{◌∷◌, ◌++◌, map, filter, length, Option, Some, None, refl, sym, ap, subst, ◌∙◌, arith, inl}
use Rattle.std.proofs.Common.{inr, eqb, leb, ltb, length-append}
use Rattle.std.specs.Option.{option_map_or}
use Rattle.std.specs.Prelude.{unwrap_or}
use Rattle.std.proofs.lemmas.Bool.{eqb-true, leb-true, and_parts, or_parts, not-false, leb-false, ltb-false}
use Rattle.std.proofs.lemmas.Bool.{false_from_ne_true}
use Rattle.flow_state.specs.declared.channel.Channel.{Channel}
use Rattle.flow_state.specs.declared.flow.FlowKind.{FlowKind}
use Rattle.flow_state.specs.declared.flow.FlowKind.TheVariants.{BestEffort, Ugs, Poll, Station, Initial}
use Rattle.flow_state.specs.declared.flow.Waiting.{Waiting}
use Rattle.flow_state.specs.declared.refusal.Refusal.{Refusal}
use Rattle.flow_state.specs.declared.refusal.Refusal.TheVariants.{BadValue, OldRequest, Busy}
use Rattle.flow_state.specs.declared.settings.ChannelSettings.{ChannelSettings}
use Rattle.flow_state.specs.Limits.{last_time, longest_interval, last_sid, most_waiting, is_backoff, is_good_channel}
use Rattle.flow_state.specs.Limits.{are_good_settings, is_good_kind, is_size, is_schedule, takes_no_requests, due_time}
use Rattle.flow_state.specs.Rows.{Table, FlowRow, Lease, is_flow, is_of, flow_of, lease_of, is_of_sid, is_leased}
use Rattle.flow_state.specs.Rows.{unicast_sids, free_sid, insert_flow, waits, is_ended, has_ended, lease_in}
pub use Rattle.flow_state.specs.Firm.{IsWellFlow, IsWellLease, IsWellRequest, RisingFrom, IsWell}
use Rattle.flow_state.specs.Sound.{IsLeasedFlow}
use Rattle.flow_state.specs.Refusals.{is_good_count, table_change_refusal, table_flow_refusal, table_request_refusal}
use Rattle.flow_state.specs.Refusals.{request_refusal_on, is_old, is_repeated}
use Rattle.flow_state.specs.Changes.{new_table, with_settings, change_in_table, new_flow, new_lease, add_to_table}
use Rattle.flow_state.specs.Changes.{flow_among, drop_in_table, request_in_table}
use Rattle.flow_state.proofs.Members.{Has, has_between, has_left, has_right, has_pushed, has_map, map_has, has_filter}
use Rattle.flow_state.proofs.Members.{filter_has, none_has, found_has, has_found, range_has, filter_empty}
use Rattle.flow_state.proofs.Filters.{filter_append, filter_swap}
use Rattle.flow_state.proofs.Freed.{free_most, given_put, few_put}
use Rattle.flow_state.proofs.Assignments.{eqb_same, unwrap_some, free_is_free, leased, first_early, has_put, put_found}
use Rattle.flow_state.proofs.Assignments.{put_others, is_added, IsAdded}

-- ---- tests

-- no refusal at a test: the test fails, and what comes after it doesn't refuse
pub passes_on : (b : Bool) (r : Refusal) (o : Option Refusal) → cond b (Some r) o ≡ None → (b ≡ false) × (o ≡ None)
passes_on true r o e = absurd cc
passes_on false r o e = (refl, e)

-- ---- flows by SID

rising_weaker : (low more : ℕ) (fs : List FlowRow) → low ≤ more → RisingFrom more fs → RisingFrom low fs
rising_weaker low more [] le r = tt
rising_weaker low more (f ∷ fs) le r = (omega (arith, r.0), r.1)

rising_has : (low : ℕ) (fs : List FlowRow) (f : FlowRow) → RisingFrom low fs → Has fs f → low ≤ f.sid
rising_has low [] f r h = absurd h
rising_has low (g ∷ fs) f r (inl e) = let same : g.sid ≡ f.sid = ap (λ (x : FlowRow). x.sid) e in omega (arith, r.0)
rising_has low (g ∷ fs) f r (inr h) = let more = rising_has (g.sid + 1) fs f r.1 h in omega (arith, r.0)

-- one flow has a SID at most
pub one_flow : (low : ℕ) (fs : List FlowRow) (f g : FlowRow) → RisingFrom low fs → Has fs f → Has fs g → f.sid ≡ g.sid → f ≡ g
one_flow low [] f g r h k e = absurd h
one_flow low (x ∷ fs) f g r (inl d) (inl e) same = sym d ∙ e
one_flow low (x ∷ fs) f g r (inl d) (inr k) same =
    let more = rising_has (x.sid + 1) fs g r.1 k in let here : x.sid ≡ f.sid = ap (λ (y : FlowRow). y.sid) d in absurd (omega arith)
one_flow low (x ∷ fs) f g r (inr h) (inl e) same =
    let more = rising_has (x.sid + 1) fs f r.1 h in let here : x.sid ≡ g.sid = ap (λ (y : FlowRow). y.sid) e in absurd (omega arith)
one_flow low (x ∷ fs) f g r (inr h) (inr k) same = one_flow (x.sid + 1) fs f g r.1 h k same

pub rising_filter : (q : FlowRow → Bool) (low : ℕ) (fs : List FlowRow) → RisingFrom low fs → RisingFrom low (filter q fs)
rising_filter q low [] r = tt
rising_filter q low (f ∷ fs) r =
    elim (q f) as (λ b. RisingFrom low (cond b (f ∷ filter q fs) (filter q fs))) [
      | true ↦ (r.0, rising_filter q (f.sid + 1) fs r.1)
      | false ↦ rising_weaker low (f.sid + 1) (filter q fs) (omega (arith, r.0)) (rising_filter q (f.sid + 1) fs r.1)
    ]

rising_map : (change : FlowRow → FlowRow) → ((f : FlowRow) → (change f).sid ≡ f.sid) → (low : ℕ) (fs : List FlowRow) → RisingFrom low fs → RisingFrom low (map change fs)
rising_map change same low [] r = tt
rising_map change same low (f ∷ fs) r =
    let e = same f in
    (omega (arith, r.0, e), subst (λ n. RisingFrom (n + 1) (map change fs)) (sym e) (rising_map change same (f.sid + 1) fs r.1))

pub has_inserted : (f : FlowRow) (fs : List FlowRow) (g : FlowRow) → Has (insert_flow f fs) g → Has fs g ⊎ (f ≡ g)
has_inserted f fs g h = elim (has_between (λ x. leb x.sid f.sid) (λ x. not (leb x.sid f.sid)) f fs g h) [ inl old ↦ inl old.0 | inr is ↦ inr is ]

pub inserted_has : (f : FlowRow) (fs : List FlowRow) (g : FlowRow) → Has fs g → Has (insert_flow f fs) g
inserted_has f fs g h = by (leb g.sid f.sid) refl
  where
    by : (b : Bool) → leb g.sid f.sid ≡ b → Has (insert_flow f fs) g
    by true e = has_left (filter (λ x. leb x.sid f.sid) fs) (f ∷ filter (λ x. not (leb x.sid f.sid)) fs) g (filter_has (λ x. leb x.sid f.sid) fs g h e)
    by false e = has_right (filter (λ x. leb x.sid f.sid) fs) (f ∷ filter (λ x. not (leb x.sid f.sid)) fs) g (inr (filter_has (λ x. not (leb x.sid f.sid)) fs g h (ap not e)))

-- a flow behind the last one of the front stays in order
rising_join : (low : ℕ) (xs : List FlowRow) (f : FlowRow) (ys : List FlowRow) → low ≤ f.sid → RisingFrom low xs → ((g : FlowRow) → Has xs g → g.sid < f.sid) → RisingFrom (f.sid + 1) ys → RisingFrom low (xs ++ f ∷ ys)
rising_join low [] f ys le r below s = (le, s)
rising_join low (x ∷ xs) f ys le r below s = (r.0, rising_join (x.sid + 1) xs f ys (let b = below x (inl refl) in omega arith) r.1 (λ g h. below g (inr h)) s)

-- what is above a SID rises from behind it
rising_above : (sid low : ℕ) (fs : List FlowRow) → RisingFrom low fs → RisingFrom (sid + 1) (filter (λ x. not (leb x.sid sid)) fs)
rising_above sid low [] r = tt
rising_above sid low (f ∷ fs) r =
    elim (leb f.sid sid) as (λ b. leb f.sid sid ≡ b → RisingFrom (sid + 1) (cond (not b) (f ∷ filter (λ x. not (leb x.sid sid)) fs) (filter (λ x. not (leb x.sid sid)) fs))) [
      | true ↦ λ e. rising_above sid (f.sid + 1) fs r.1
      | false ↦ λ e. let lt = leb-false f.sid sid e in (omega arith, rising_filter (λ x. not (leb x.sid sid)) (f.sid + 1) fs r.1)
    ] refl

pub rising_inserted : (f : FlowRow) (fs : List FlowRow) → 1 ≤ f.sid → ((g : FlowRow) → Has fs g → ¬ (g.sid ≡ f.sid)) → RisingFrom 1 fs → RisingFrom 1 (insert_flow f fs)
rising_inserted f fs one other r =
    rising_join 1 (filter (λ x. leb x.sid f.sid) fs) f (filter (λ x. not (leb x.sid f.sid)) fs) one (rising_filter (λ x. leb x.sid f.sid) 1 fs r)
    (λ g h. below g (has_filter (λ x. leb x.sid f.sid) fs g h)) (rising_above f.sid 1 fs r)
  where
    below : (g : FlowRow) → Has fs g × (leb g.sid f.sid ≡ true) → g.sid < f.sid
    below g h = let le = leb-true g.sid f.sid h.1 in let off = other g h.0 in less g.sid f.sid le off
      where
        less : (m n : ℕ) → m ≤ n → ¬ (m ≡ n) → m < n
        less m n le off = grind (arith, off)

-- ---- lengths

pub filter_fewer : {X : Type 0} (p : X → Bool) (xs : List X) → length (filter p xs) ≤ length xs
filter_fewer p [] = omega arith
filter_fewer p (x ∷ xs) = let less = filter_fewer p xs in elim (p x) as (λ b. length (cond b (x ∷ filter p xs) (filter p xs)) ≤ suc (length xs)) [ true ↦ omega arith | false ↦ omega arith ]

-- what passes two tests is no more than what passes one
pub filter_both : {X : Type 0} (p q : X → Bool) (xs : List X) → length (filter p (filter q xs)) ≤ length (filter p xs)
filter_both p q xs = rw (filter_swap p q xs) (filter_fewer q (filter p xs))

-- ---- a channel as it is set

pub new_is_well : (c : Channel) → is_good_channel c ≡ true → IsWell (new_table c)
new_is_well c good = record {
  channel = good;
  next = leb-true _ _ (and_parts _ _ good).1;
  ack = omega arith;
  order = refl;
  sids = omega arith;
  flows = λ f h. absurd h;
  rising = tt;
  given = λ f h. absurd h;
  leases = λ l h. absurd h;
  requests = λ w h. absurd h;
  alone = λ sid. omega arith;
  few = omega arith;
}

-- ---- a channel that changes

-- a channel that was within the limits is, with settings within them
settings_good : (c : Channel) (s : ChannelSettings) → are_good_settings s ≡ true → is_good_channel c ≡ true → is_good_channel (with_settings c s) ≡ true
settings_good c s good was =
    let base = (and_parts (is_backoff c.ranging_backoff.0 c.ranging_backoff.1 && is_backoff c.data_backoff.0 c.data_backoff.1 && ltb 0 c.short_max) (leb c.base last_time) was).1 in
    ap (λ b. b && leb c.base last_time) good ∙ base

pub change_is_well : (t : Table) (s : ChannelSettings) → table_change_refusal t s ≡ None → IsWell t → IsWell (change_in_table t s)
change_is_well t s ok w =
    let passed = passes_on (not (are_good_settings s && is_good_count t.row.channel s)) BadValue None ok in
    record {
      channel = settings_good t.row.channel s (and_parts (are_good_settings s) (is_good_count t.row.channel s) (not-false _ passed.0)).0 w.channel;
      next = w.next;
      ack = w.ack;
      order = w.order;
      sids = w.sids;
      flows = w.flows;
      rising = w.rising;
      given = λ f h. let g = w.given f h in record { lease = g.lease; goes_on = g.goes_on };
      leases = w.leases;
      requests = w.requests;
      alone = w.alone;
      few = w.few;
    }

-- ---- a flow as it is added

scheduled : (interval jitter base : ℕ) → is_schedule interval jitter base ≡ true → base + 0 * interval ≤ last_time
scheduled interval jitter base e = let at_most : base ≤ last_time = leb-true base last_time (and_parts (leb 1 interval && leb interval longest_interval && ltb jitter interval) (leb base last_time) e).1 in omega arith

first_due : (kind : FlowKind) → is_good_kind kind ≡ true → due_time kind 0 ≤ last_time
first_due (BestEffort priority) e = omega arith
first_due (Ugs size interval jitter base) e = let schedule = and_parts (is_size size) (is_schedule interval jitter base) e in
    scheduled interval jitter base schedule.1
first_due (Poll interval jitter base) e = scheduled interval jitter base e
first_due (Station size interval jitter base) e = let schedule = and_parts (is_size size) (is_schedule interval jitter base) e in
    scheduled interval jitter base schedule.1
first_due (Initial size interval jitter base) e = let schedule = and_parts (is_size size) (is_schedule interval jitter base) e in
    scheduled interval jitter base schedule.1

-- the request's flow is among these too
request_at : {fs : List FlowRow} {w : Waiting} (gs : List FlowRow) (r : IsWellRequest fs w) → Has gs r.flow → IsWellRequest gs w
request_at gs r there = record { some = r.some; most = r.most; time = r.time; flow = r.flow; there = there; sid = r.sid; last = r.last; after = r.after; before = r.before; asks = r.asks }

listed : (n : ℕ) → Has unicast_sids n → (1 ≤ n) × (n < 1 + last_sid)
unfolding unicast_sids
listed n h = range_has 1 last_sid n h

-- a SID that is free is a unicast one
pub free_range : (t : Table) (sid : ℕ) → free_sid t ≡ Some sid → (1 ≤ sid) × (sid < 1 + last_sid)
free_range t sid e = listed sid (found_has (λ s. not (is_leased t s)) unicast_sids sid e).0

-- a flow stands under a lease of the table
pub flow_lease : (t : Table) (f : FlowRow) → IsLeasedFlow t f → Has t.leases (lease_in f)
flow_lease t f l = (found_has (is_of_sid f.sid) t.leases (lease_in f) l.lease).0

-- a SID that is free isn't a flow's
pub free_apart : (t : Table) (sid : ℕ) (f : FlowRow) → free_sid t ≡ Some sid → IsLeasedFlow t f → eqb sid f.sid ≡ false
free_apart t sid f free l = false_from_ne_true (eqb sid f.sid) (λ e.
    let on : is_leased t f.sid ≡ true = leased t (lease_in f) (flow_lease t f l) l.goes_on in
    let off : is_leased t sid ≡ false = free_is_free t sid free in
    let same : is_leased t sid ≡ is_leased t f.sid = ap (is_leased t) (eqb-true sid f.sid e) in
    cc)

pub flow_is_well : (o : Option Lease) (t : Table) (modem tag last : ℕ) (kind : FlowKind) → lease_of t modem tag ≡ o → table_flow_refusal t modem tag last kind ≡ None → IsWell t → IsWell (flow_among o t modem tag last kind)
flow_is_well (Some a) t modem tag last kind e ok w = w
flow_is_well None t modem tag last kind e ok w =
    let a = is_added t modem tag last kind e ok in
    by (unwrap_or (free_sid t) 0) a (a.free ∙ ap (λ (n : ℕ). Some n) (sym (unwrap_some (free_sid t) a.sid a.free)))
  where
    by : (sid : ℕ) → IsAdded t last kind → free_sid t ≡ Some sid → IsWell (add_to_table t (new_lease t modem tag last sid) kind)
    by sid a free =
        let lease : Lease = new_lease t modem tag last sid in
        let new : FlowRow = new_flow lease kind in
        let due = first_due kind a.kind_good in
        let range = free_range t sid free in
        let next : sid ≤ length t.leases + 1 = free_most t sid w.order w.sids free in
        let early = first_early t sid in
        let goes_on = a.goes_on in
        let well : IsWellFlow new = record { unicast = range.0; last = omega (arith, range.1); kind = a.kind_good; due = omega arith } in
        record {
          channel = w.channel;
          next = w.next;
          ack = w.ack;
          order = given_put lease t.leases w.order range.0 next;
          sids = few_put lease t.leases w.order range.0 next w.sids (omega (arith, range.1));
          flows = λ f h. elim (has_inserted new t.flows f h) [ inl old ↦ w.flows f old | inr is ↦ subst IsWellFlow is well ];
          rising = rising_inserted new t.flows range.0 (λ g h is. absurd (let apart = free_apart t sid g free (w.given g h) in let same = ap (eqb sid) is ∙ eqb_same sid in cc)) w.rising;
          given = λ f h. elim (has_inserted new t.flows f h) [
            | inl old ↦ let g = w.given f old in record { lease = put_others lease t.leases f.sid (free_apart t sid f free g) ∙ g.lease; goes_on = g.goes_on }
            | inr is ↦ subst (IsLeasedFlow (add_to_table t lease kind)) is (record { lease = put_found lease t.leases; goes_on = goes_on })
          ];
          leases = λ l h. elim (has_put lease t.leases l h) [
            | inl old ↦ w.leases l old
            | inr is ↦ subst (IsWellLease t.row.next_start) is (record { unicast = range.0; last = omega (arith, range.1); begun = early; whole = omega arith; ended = a.most })
          ];
          requests = λ r h. let old = w.requests r h in request_at (insert_flow new t.flows) old (inserted_has new t.flows old.flow old.there);
          alone = w.alone;
          few = w.few;
        }

-- ---- some flows and requests stay, and a request's flow with it

module _ (t : Table) (stays : FlowRow → Bool) (waits : Waiting → Bool) (w : IsWell t) where
  request_stays : ((r : Waiting) (f : FlowRow) → Has t.flows f → f.sid ≡ r.sid → waits r ≡ true → stays f ≡ true)
      → (r : Waiting) → Has (filter waits t.waiting) r → IsWellRequest (filter stays t.flows) r
  request_stays too r h =
      let kept = has_filter waits t.waiting r h in
      let old = w.requests r kept.0 in
      request_at (filter stays t.flows) old (filter_has stays t.flows old.flow old.there (too r old.flow old.there old.sid kept.1))

  one_waits : (sid : ℕ) → length (filter (is_of sid) (filter waits t.waiting)) ≤ 1
  one_waits sid = let less = filter_both (is_of sid) waits t.waiting in let one = w.alone sid in omega arith

  few_wait : length (filter waits t.waiting) ≤ most_waiting
  few_wait = let less = filter_fewer waits t.waiting in let most = w.few in omega arith

-- ---- a flow is dropped

pub drop_is_well : (t : Table) (at : ℕ) → IsWell t → IsWell (drop_in_table t at)
drop_is_well t at w = record {
  channel = w.channel;
  next = w.next;
  ack = w.ack;
  order = w.order;
  sids = w.sids;
  flows = λ f h. w.flows f (has_filter (λ g. not (is_flow at g)) t.flows f h).0;
  rising = rising_filter (λ g. not (is_flow at g)) 1 t.flows w.rising;
  given = λ f h. let g = w.given f (has_filter (λ g. not (is_flow at g)) t.flows f h).0 in record { lease = g.lease; goes_on = g.goes_on };
  leases = w.leases;
  requests = request_stays t (λ g. not (is_flow at g)) (λ v. not (is_of at v)) w (λ r f h same kept. ap (λ n. not (eqb n at)) same ∙ kept);
  alone = one_waits t (λ g. not (is_flow at g)) (λ v. not (is_of at v)) w;
  few = few_wait t (λ g. not (is_flow at g)) (λ v. not (is_of at v)) w;
}

-- ---- a request as it is accepted

-- what holds of a request that isn't refused
pub record IsAsked (t : Table) (sid n sent : ℕ) : Type 0 where
  pub flow : FlowRow
  pub found : flow_of t sid ≡ Some flow
  pub there : Has t.flows flow
  pub sid_is : flow.sid ≡ sid
  pub some : 1 ≤ n
  pub most : n ≤ 255
  pub time : sent ≤ last_time
  pub after : flow.first ≤ sent
  pub before : sent ≤ flow.last
  pub asks : takes_no_requests flow.kind ≡ false
  pub new : is_repeated flow.last_sent sent ≡ false
  pub idle : waits t sid ≡ false
  pub room : length t.waiting < most_waiting

pub is_asked : (t : Table) (sid n sent : ℕ) → table_request_refusal t sid n sent ≡ None → IsAsked t sid n sent
is_asked t sid n sent e = by (flow_of t sid) refl e
  where
    by : (o : Option FlowRow) → flow_of t sid ≡ o → request_refusal_on o t n sent ≡ None → IsAsked t sid n sent
    by None f g = absurd cc
    by (Some flow) f g =
        let found = found_has (is_flow sid) t.flows flow f in
        let same : flow.sid ≡ sid = eqb-true _ _ found.1 in
        let first = passes_on (not (is_size n) || not (leb sent last_time) || ltb flow.last sent || takes_no_requests flow.kind) BadValue _ g in
        let second = passes_on (is_old flow sent) OldRequest _ first.1 in
        let old = or_parts (ltb sent flow.first) (is_repeated flow.last_sent sent) second.0 in
        let third = passes_on (waits t flow.sid || leb most_waiting (length t.waiting)) Busy None second.1 in
        let values = or_parts (not (is_size n) || not (leb sent last_time) || ltb flow.last sent) (takes_no_requests flow.kind) first.0 in
        let times = or_parts (not (is_size n) || not (leb sent last_time)) (ltb flow.last sent) values.0 in
        let parts = or_parts (not (is_size n)) (not (leb sent last_time)) times.0 in
        let size = and_parts _ _ (not-false (is_size n) parts.0) in
        let busy = or_parts (waits t flow.sid) (leb most_waiting (length t.waiting)) third.0 in
        record {
          flow = flow;
          found = f;
          there = found.0;
          sid_is = same;
          some = leb-true _ _ size.0;
          most = leb-true _ _ size.1;
          time = leb-true _ _ (not-false _ parts.1);
          after = ltb-false sent flow.first old.0;
          before = ltb-false flow.last sent times.1;
          asks = values.1;
          new = old.1;
          idle = ap (waits t) (sym same) ∙ busy.0;
          room = leb-false most_waiting (length t.waiting) busy.1;
        }

-- a flow as a request of a SID leaves it
abbrev pub asked : ℕ → ℕ → FlowRow → FlowRow
asked sid sent f = cond (is_flow sid f) (record f { last_sent = Some sent }) f

pub asked_same : (sid sent : ℕ) (f : FlowRow) → (asked sid sent f).sid ≡ f.sid
asked_same sid sent f = elim (is_flow sid f) as (λ b. (cond b (record f { last_sent = Some sent }) f).sid ≡ f.sid) [ true ↦ refl | false ↦ refl ]

asked_well : (sid sent : ℕ) (f : FlowRow) → IsWellFlow f → IsWellFlow (asked sid sent f)
asked_well sid sent f w = elim (is_flow sid f) as (λ b. IsWellFlow (cond b (record f { last_sent = Some sent }) f)) [
  | true ↦ record { unicast = w.unicast; last = w.last; kind = w.kind; due = w.due }
  | false ↦ w
]

pub request_is_well : (t : Table) (sid n sent : ℕ) → table_request_refusal t sid n sent ≡ None → IsWell t → IsWell (request_in_table t sid n sent)
request_is_well t sid n sent ok w =
    let a = is_asked t sid n sent ok in
    let new : Waiting = record { sid = sid; n = n; sent = sent } in
    record {
      channel = w.channel;
      next = w.next;
      ack = w.ack;
      order = w.order;
      sids = w.sids;
      flows = λ f h. let m = has_map (asked sid sent) t.flows f h in subst IsWellFlow m.2 (asked_well sid sent m.0 (w.flows m.0 m.1));
      rising = rising_map (asked sid sent) (asked_same sid sent) 1 t.flows w.rising;
      given = λ f h. let m = has_map (asked sid sent) t.flows f h in
          subst (IsLeasedFlow (request_in_table t sid n sent)) m.2 (asked_leased m.0 (w.given m.0 m.1));
      leases = w.leases;
      requests = λ r h. elim (has_pushed t.waiting new r h) [
        | inl old ↦ kept a r old
        | inr is ↦ subst (IsWellRequest (map (asked sid sent) t.flows)) is (record {
          some = a.some;
          most = a.most;
          time = a.time;
          flow = record a.flow { last_sent = Some sent };
          there = subst (Has (map (asked sid sent) t.flows)) (ap (λ b. cond b (record a.flow { last_sent = Some sent }) a.flow) (on a)) (map_has (asked sid sent) t.flows a.flow a.there);
          sid = a.sid_is;
          last = refl;
          after = a.after;
          before = a.before;
          asks = a.asks;
        })
      ];
      alone = λ s. one a s (eqb sid s) refl;
      few = let room = a.room in let len = length-append t.waiting (new ∷ []) in omega arith;
    }
  where
    asked_leased : (f : FlowRow) → IsLeasedFlow t f → IsLeasedFlow (request_in_table t sid n sent) (asked sid sent f)
    asked_leased f l = elim (is_flow sid f) as (λ b. IsLeasedFlow (request_in_table t sid n sent) (cond b (record f { last_sent = Some sent }) f)) [
      | true ↦ record { lease = l.lease; goes_on = l.goes_on }
      | false ↦ record { lease = l.lease; goes_on = l.goes_on }
    ]

    on : (a : IsAsked t sid n sent) → is_flow sid a.flow ≡ true
    on a = ap (λ m. eqb m sid) a.sid_is ∙ eqb_same sid

    kept : IsAsked t sid n sent → (r : Waiting) → Has t.waiting r → IsWellRequest (map (asked sid sent) t.flows) r
    kept a r h =
        let old = w.requests r h in
        let other : is_flow sid old.flow ≡ false = ap (λ m. eqb m sid) old.sid ∙ none_has (is_of sid) t.waiting r a.idle h in
        request_at (map (asked sid sent) t.flows) old (subst (Has (map (asked sid sent) t.flows)) (ap (λ b. cond b (record old.flow { last_sent = Some sent }) old.flow) other) (map_has (asked sid sent) t.flows old.flow old.there))

    none : IsAsked t sid n sent → filter (is_of sid) t.waiting ≡ []
    none a = filter_empty (is_of sid) t.waiting (λ r h. none_has (is_of sid) t.waiting r a.idle h)

    one : IsAsked t sid n sent → (s : ℕ) (b : Bool) → eqb sid s ≡ b → length (filter (is_of s) (t.waiting ++ record { sid = sid; n = n; sent = sent } ∷ [])) ≤ 1
    one a s b e =
        let parts : filter (is_of s) (t.waiting ++ record { sid = sid; n = n; sent = sent } ∷ []) ≡ filter (is_of s) t.waiting ++ cond b (record { sid = sid; n = n; sent = sent } ∷ []) [] =
        filter_append (is_of s) t.waiting _ ∙ ap (λ c. filter (is_of s) t.waiting ++ cond c (record { sid = sid; n = n; sent = sent } ∷ []) []) e in
        subst (λ (ws : List Waiting). length ws ≤ 1) (sym parts) (few_of b e)
      where
        few_of : (b : Bool) → eqb sid s ≡ b → length (filter (is_of s) t.waiting ++ cond b (record { sid = sid; n = n; sent = sent } ∷ []) []) ≤ 1
        few_of true f =
            let empty : filter (is_of s) t.waiting ≡ [] = subst (λ m. filter (is_of m) t.waiting ≡ []) (eqb-true _ _ f) (none a) in
            subst (λ (ws : List Waiting). length (ws ++ record { sid = sid; n = n; sent = sent } ∷ []) ≤ 1) (sym empty) (omega arith)
        few_of false f = let less = w.alone s in let len = length-append (filter (is_of s) t.waiting) [] in omega arith

-- ---- a MAP is closed

-- a flow of the table is the one that its SID finds
pub flow_found : (t : Table) (f : FlowRow) → RisingFrom 1 t.flows → Has t.flows f → flow_of t f.sid ≡ Some f
flow_found t f r h =
    let found = has_found (is_flow f.sid) t.flows f h (eqb_same f.sid) in
    let first = found_has (is_flow f.sid) t.flows found.0 found.1 in
    found.1 ∙ ap (λ (g : FlowRow). Some g) (one_flow 1 t.flows found.0 f r first.0 h (eqb-true _ _ first.1))

-- a request has ended with its flow
pub ended_with : (t : Table) (end : ℕ) (w : Waiting) (f : FlowRow) → RisingFrom 1 t.flows → Has t.flows f → f.sid ≡ w.sid → has_ended t end w ≡ is_ended end f
ended_with t end w f r h same = ap (λ (o : Option FlowRow). option_map_or (is_ended end) o false) (ap (flow_of t) (sym same) ∙ flow_found t f r h)
