-- A whole table passes its tests exactly where it is one that commands could leave.
use Rattle.std.proofs.Common.{◌≡◌, ℕ, zero, suc, ◌+◌, ◌*◌, ◌-◌, ◌/◌, ◌%◌, ◌<◌, ◌≤◌, Bool, true, false, cond, not, ◌&&◌}
use Rattle.std.proofs.Common.{List, [], ◌∷◌, map, filter, length, Option, Some, None, refl, sym, ap, subst, ◌∙◌, arith}
use Rattle.std.proofs.Common.{inl, inr, eqb, leb, ltb, slice_get}
use Rattle.std.specs.List.{find, list_all, list_any, count_by, range_with_len, AllByRecursion}
use Rattle.std.specs.Option.{option_map_or}
use Rattle.std.proofs.lemmas.Bool.{eqb-true, leb-true, and_parts, not-true}
use Rattle.std.proofs.lemmas.List.Sums.{length-filter}
use Rattle.flow_state.specs.declared.channel.ChannelRow.{ChannelRow}
use Rattle.flow_state.specs.declared.flow.Flow.{Flow}
use Rattle.flow_state.specs.declared.flow.FlowKind.{FlowKind}
use Rattle.flow_state.specs.declared.flow.FlowKind.TheVariants.{BestEffort, Ugs, Poll, Station, Initial}
use Rattle.flow_state.specs.declared.flow.Waiting.{Waiting}
use Rattle.flow_state.specs.declared.whole.WholeTable.{WholeTable}
use Rattle.flow_state.specs.Limits.{last_time, longest_interval, last_sid, most_waiting, is_good_channel, is_good_kind}
use Rattle.flow_state.specs.Limits.{is_size, takes_no_requests, due_time, due_index}
use Rattle.flow_state.specs.Rows.{Table, FlowRow, Lease, is_of, is_of_sid, lent_flow}
use Rattle.flow_state.specs.Sound.{IsLeasedFlow}
use Rattle.flow_state.specs.StoredFlows.{place_of}
use Rattle.flow_state.specs.StoredTable.{MayBePut}
use Rattle.flow_state.specs.View.{flow_view}
use Rattle.flow_state.specs.Firm.{Has, IsWell, IsWellFlow, IsWellLease, IsWellRequest, RisingFrom, FitsChannel, IsIdle}
use Rattle.flow_state.specs.Firm.{idle, IsFirm, table_in}
use Rattle.flow_state.specs.Tests.{is_firm_row, is_firm_lease, are_in_order, are_firm_leases, is_same_lease}
use Rattle.flow_state.specs.Tests.{stands_there, is_step, is_due_time, is_firm_flow, are_rising, are_firm_flows}
use Rattle.flow_state.specs.Tests.{is_last, has_asked, is_firm_request, is_alone, are_firm_requests, is_firm_whole}
use Rattle.flow_state.proofs.Assignments.{eqb_same}
use Rattle.flow_state.proofs.DueTimes.{some_interval}
use Rattle.flow_state.proofs.Freed.{Runs, runs}
use Rattle.flow_state.proofs.Members.{all_has, has_map, map_has, found_has, has_found, any_has, none_has, filter_empty}
use Rattle.flow_state.proofs.Members.{place_of as place_in}
use Rattle.flow_state.proofs.Wells.{one_flow}

-- ---- tests

both : (a b : Bool) → a ≡ true → b ≡ true → (a && b) ≡ true
both a b p q = ap (λ x. x && b) p ∙ q

le_true : (m n : ℕ) → m ≤ n → leb m n ≡ true
le_true m n le = grind (arith, le)

same_true : (m n : ℕ) → m ≡ n → eqb m n ≡ true
same_true m n e = grind (arith, e)

module _ {X : Type 0} (p : X → Bool) where
  all_pass : (xs : List X) → list_all p xs ≡ true → (x : X) → Has xs x → p x ≡ true
  all_pass [] e x h = absurd h
  all_pass (y ∷ ys) e x (inl is) = ap p (sym is) ∙ (and_parts (p y) (list_all p ys) e).0
  all_pass (y ∷ ys) e x (inr h) = all_pass ys (and_parts (p y) (list_all p ys) e).1 x h

  pass_all : (xs : List X) → ((x : X) → Has xs x → p x ≡ true) → list_all p xs ≡ true
  pass_all [] each = refl
  pass_all (x ∷ xs) each = both (p x) (list_all p xs) (each x (inl refl)) (pass_all xs (λ y h. each y (inr h)))

-- ---- leases

order_is : (low : ℕ) (ls : List Lease) → are_in_order low ls ≡ true → map (λ l. l.sid) ls ≡ range_with_len low (length ls)
order_is low [] e = refl
order_is low (l ∷ ls) e =
    let parts = and_parts (eqb l.sid low) (are_in_order (low + 1) ls) e in
    ap (λ n. n ∷ map (λ (o : Lease). o.sid) ls) (eqb-true l.sid low parts.0) ∙ ap (λ (ns : List ℕ). low ∷ ns) (order_is (low + 1) ls parts.1)

in_order : (low : ℕ) (ls : List Lease) → map (λ l. l.sid) ls ≡ range_with_len low (length ls) → are_in_order low ls ≡ true
in_order low [] e = refl
in_order low (l ∷ ls) e =
    let first : l.sid ≡ low = cc in
    let rest : map (λ (o : Lease). o.sid) ls ≡ range_with_len (low + 1) (length ls) = cc in
    both (eqb l.sid low) (are_in_order (low + 1) ls) (same_true l.sid low first) (in_order (low + 1) ls rest)

lease_is_well : (start : ℕ) (l : Lease) → is_firm_lease start l ≡ true → IsWellLease start l
lease_is_well start l e =
    let d = and_parts (leb 1 l.sid && leb l.sid last_sid && leb l.first start && leb l.first l.last) (leb l.last last_time) e in
    let c = and_parts (leb 1 l.sid && leb l.sid last_sid && leb l.first start) (leb l.first l.last) d.0 in
    let b = and_parts (leb 1 l.sid && leb l.sid last_sid) (leb l.first start) c.0 in
    let a = and_parts (leb 1 l.sid) (leb l.sid last_sid) b.0 in
    record { unicast = leb-true _ _ a.0; last = leb-true _ _ a.1; begun = leb-true _ _ b.1; whole = leb-true _ _ c.1; ended = leb-true _ _ d.1 }

well_lease : (start : ℕ) (l : Lease) → IsWellLease start l → is_firm_lease start l ≡ true
well_lease start l w =
    both _ _ (both _ _ (both _ _ (both _ _ (le_true 1 l.sid w.unicast) (le_true l.sid last_sid w.last)) (le_true l.first start w.begun)) (le_true l.first l.last w.whole)) (le_true l.last last_time w.ended)

-- the lease at a place is the latest one of its SID
found_at : (low k : ℕ) (ls : List Lease) (m : Lease) → Runs low ls → slice_get ls k ≡ Some m → (m.sid ≡ low + k) × (find (is_of_sid (low + k)) ls ≡ Some m)
found_at low k [] m r e = absurd cc
found_at low zero (l ∷ ls) m r e =
    let is : l ≡ m = cc in
    let at : l.sid ≡ low = r.0 in
    let same : l.sid ≡ low + 0 = omega arith in
    (subst (λ (x : Lease). x.sid ≡ low + 0) is same, ap (λ b. cond b (Some l) (find (is_of_sid (low + 0)) ls)) (same_true l.sid (low + 0) same) ∙ ap (λ (x : Lease). Some x) is)
found_at low (suc k) (l ∷ ls) m r e =
    let more = found_at (low + 1) k ls m r.1 e in
    let on : low + 1 + k ≡ low + suc k = omega arith in
    let at : l.sid ≡ low = r.0 in
    let off : eqb l.sid (low + suc k) ≡ false = grind (arith, at) in
    (more.0 ∙ on, ap (λ b. cond b (Some l) (find (is_of_sid (low + suc k)) ls)) off ∙ ap (λ n. find (is_of_sid n) ls) (sym on) ∙ more.1)

place_is : (k : ℕ) → place_of (1 + k) ≡ k
place_is k =
    let some : ltb 0 (1 + k) ≡ true = grind arith in
    let less : 1 + k - 1 ≡ k = omega arith in
    ap (λ b. cond b (1 + k - 1) 65535) some ∙ less

same_parts : (l m : Lease) → is_same_lease l m ≡ true → m ≡ l
same_parts l m e =
    let d = and_parts (eqb m.sid l.sid && eqb m.modem l.modem && eqb m.tag l.tag && eqb m.first l.first) (eqb m.last l.last) e in
    let c = and_parts (eqb m.sid l.sid && eqb m.modem l.modem && eqb m.tag l.tag) (eqb m.first l.first) d.0 in
    let b = and_parts (eqb m.sid l.sid && eqb m.modem l.modem) (eqb m.tag l.tag) c.0 in
    let a = and_parts (eqb m.sid l.sid) (eqb m.modem l.modem) b.0 in
    by (eqb-true _ _ a.0) (eqb-true _ _ a.1) (eqb-true _ _ b.1) (eqb-true _ _ c.1) (eqb-true _ _ d.1)
  where
    by : m.sid ≡ l.sid → m.modem ≡ l.modem → m.tag ≡ l.tag → m.first ≡ l.first → m.last ≡ l.last → m ≡ l
    by sid modem tag first last =
        ap (λ n. record { sid = n; modem = m.modem; tag = m.tag; first = m.first; last = m.last }) sid
        ∙ ap (λ n. record { sid = l.sid; modem = n; tag = m.tag; first = m.first; last = m.last }) modem
        ∙ ap (λ n. record { sid = l.sid; modem = l.modem; tag = n; first = m.first; last = m.last }) tag
        ∙ ap (λ n. record { sid = l.sid; modem = l.modem; tag = l.tag; first = n; last = m.last }) first
        ∙ ap (λ n. record { sid = l.sid; modem = l.modem; tag = l.tag; first = l.first; last = n }) last

same_self : (l : Lease) → is_same_lease l l ≡ true
same_self l = both _ _ (both _ _ (both _ _ (both _ _ (eqb_same l.sid) (eqb_same l.modem)) (eqb_same l.tag)) (eqb_same l.first)) (eqb_same l.last)

module _ (ls : List Lease) (order : map (λ l. l.sid) ls ≡ range_with_len 1 (length ls)) where
  stands_found : (l : Lease) → stands_there ls l ≡ true → find (is_of_sid l.sid) ls ≡ Some l
  stands_found l e = by (slice_get ls (place_of l.sid)) refl e
    where
      by : (o : Option Lease) → slice_get ls (place_of l.sid) ≡ o → option_map_or (is_same_lease l) o false ≡ true → find (is_of_sid l.sid) ls ≡ Some l
      by None at t = absurd cc
      by (Some m) at t =
          let is = same_parts l m t in
          let found = found_at 1 (place_of l.sid) ls m (runs ls order) at in
          let sid : 1 + place_of l.sid ≡ l.sid = sym found.0 ∙ ap (λ (x : Lease). x.sid) is in
          ap (λ n. find (is_of_sid n) ls) (sym sid) ∙ found.1 ∙ ap (λ (x : Lease). Some x) is

  found_stands : (l : Lease) → find (is_of_sid l.sid) ls ≡ Some l → stands_there ls l ≡ true
  found_stands l e =
      let p = place_in ls l (found_has (is_of_sid l.sid) ls l e).0 in
      let found = found_at 1 p.0 ls l (runs ls order) p.1 in
      ap (λ n. option_map_or (is_same_lease l) (slice_get ls n) false) (ap place_of found.0 ∙ place_is p.0)
      ∙ ap (λ o. option_map_or (is_same_lease l) o false) p.1 ∙ same_self l

-- ---- due times

step_is : (interval base due : ℕ) → is_step interval base due ≡ true → due ≡ base + (due - base) / interval * interval
step_is interval base due e =
    let b = and_parts (leb 1 interval && leb base due) (eqb ((due - base) % interval) 0) e in
    let a = and_parts (leb 1 interval) (leb base due) b.0 in
    let some : 1 ≤ interval = leb-true _ _ a.0 in
    let from : base ≤ due = leb-true _ _ a.1 in
    let rest : (due - base) % interval ≡ 0 = eqb-true _ _ b.1 in
    grind (arith, some, from, rest)

due_is : (kind : FlowKind) (due : ℕ) → is_good_kind kind ≡ true → is_due_time kind due ≡ true → due ≡ due_time kind (due_index kind due)
due_is (BestEffort priority) due good e = eqb-true due 0 e
due_is (Ugs size interval jitter base) due good e = step_is interval base due e
due_is (Poll interval jitter base) due good e = step_is interval base due e
due_is (Station size interval jitter base) due good e = step_is interval base due e
due_is (Initial size interval jitter base) due good e = step_is interval base due e

is_due : (interval base due i : ℕ) → 0 < interval → due ≡ base + i * interval → is_step interval base due ≡ true
is_due interval base due i some e =
    let from : base ≤ due = grind (arith, e) in
    let rest : (due - base) % interval ≡ 0 = grind (arith, e, some) in
    both _ _ (both _ _ (le_true 1 interval (omega (arith, some))) (le_true base due from)) (same_true ((due - base) % interval) 0 rest)

due_passes : (kind : FlowKind) (due : ℕ) → is_good_kind kind ≡ true → due ≡ due_time kind (due_index kind due) → is_due_time kind due ≡ true
due_passes (BestEffort priority) due good e = same_true due 0 e
due_passes (Ugs size interval jitter base) due good e = is_due interval base due _ (some_interval interval jitter base (and_parts (is_size size) _ good).1) e
due_passes (Poll interval jitter base) due good e = is_due interval base due _ (some_interval interval jitter base good) e
due_passes (Station size interval jitter base) due good e = is_due interval base due _ (some_interval interval jitter base (and_parts (is_size size) _ good).1) e
due_passes (Initial size interval jitter base) due good e = is_due interval base due _ (some_interval interval jitter base (and_parts (is_size size) _ good).1) e

-- a flow as it is read is idle where it is best-effort
view_idle : (f : Flow) → IsIdle (flow_view f)
view_idle f = by f.kind f.due
  where
    by : (kind : FlowKind) (due : ℕ) → idle kind (due_index kind due)
    by (BestEffort priority) due = refl
    by (Ugs size interval jitter base) due = tt
    by (Poll interval jitter base) due = tt
    by (Station size interval jitter base) due = tt
    by (Initial size interval jitter base) due = tt

views_idle : (fs : List Flow) → AllByRecursion IsIdle (map flow_view fs)
views_idle [] = tt
views_idle (f ∷ fs) = (view_idle f, views_idle fs)

-- each next due time is one of the flow's exactly where the rows lend the flows
lent_again : (fs : List Flow) → ((f : Flow) → Has fs f → f.due ≡ due_time f.kind (due_index f.kind f.due)) → map lent_flow (map flow_view fs) ≡ fs
lent_again [] each = refl
lent_again (f ∷ fs) each =
    ap (λ d. record f { due = d } ∷ map lent_flow (map flow_view fs)) (sym (each f (inl refl)))
    ∙ ap (λ (gs : List Flow). f ∷ gs) (lent_again fs (λ g h. each g (inr h)))

lent_due : (fs : List Flow) → map lent_flow (map flow_view fs) ≡ fs → (f : Flow) → Has fs f → f.due ≡ due_time f.kind (due_index f.kind f.due)
lent_due [] e f h = absurd h
lent_due (g ∷ fs) e f (inl is) =
    let head : lent_flow (flow_view g) ≡ g = cc in
    subst (λ (x : Flow). x.due ≡ due_time x.kind (due_index x.kind x.due)) is (sym (ap (λ (x : Flow). x.due) head))
lent_due (g ∷ fs) e f (inr h) = let tail : map lent_flow (map flow_view fs) ≡ fs = cc in lent_due fs tail f h

-- ---- flows

rising_is : (low : ℕ) (fs : List Flow) → are_rising low fs ≡ true → RisingFrom (low + 1) (map flow_view fs)
rising_is low [] e = tt
rising_is low (f ∷ fs) e =
    let parts = and_parts (ltb low f.lease.sid) (are_rising f.lease.sid fs) e in
    let lt = parts.0 in
    let more : low + 1 ≤ f.lease.sid = grind (arith, lt) in
    (more, rising_is f.lease.sid fs parts.1)

rising_passes : (low : ℕ) (fs : List Flow) → RisingFrom (low + 1) (map flow_view fs) → are_rising low fs ≡ true
rising_passes low [] r = refl
rising_passes low (f ∷ fs) r =
    let more : low + 1 ≤ f.lease.sid = r.0 in
    let lt : ltb low f.lease.sid ≡ true = grind (arith, more) in
    both _ _ lt (rising_passes f.lease.sid fs r.1)

-- what the test of a flow says
pub record IsTested (start : ℕ) (ls : List Lease) (f : Flow) : Type 0 where
  pub kind : is_good_kind f.kind ≡ true
  pub due : is_due_time f.kind f.due ≡ true
  pub soon : f.due ≤ last_time + longest_interval
  pub goes_on : start ≤ f.lease.last
  pub stands : stands_there ls f.lease ≡ true

tested : (start : ℕ) (ls : List Lease) (f : Flow) → is_firm_flow start ls f ≡ true → IsTested start ls f
tested start ls f e =
    let d = and_parts (is_good_kind f.kind && is_due_time f.kind f.due && leb f.due (last_time + longest_interval) && leb start f.lease.last) (stands_there ls f.lease) e in
    let c = and_parts (is_good_kind f.kind && is_due_time f.kind f.due && leb f.due (last_time + longest_interval)) (leb start f.lease.last) d.0 in
    let b = and_parts (is_good_kind f.kind && is_due_time f.kind f.due) (leb f.due (last_time + longest_interval)) c.0 in
    let a = and_parts (is_good_kind f.kind) (is_due_time f.kind f.due) b.0 in
    record { kind = a.0; due = a.1; soon = leb-true _ _ b.1; goes_on = leb-true _ _ c.1; stands = d.1 }

-- ---- requests

-- what the test of a request says of its flow
pub record HasAsked (w : Waiting) (f : Flow) : Type 0 where
  pub some : 1 ≤ w.n
  pub most : w.n ≤ 255
  pub time : w.sent ≤ last_time
  pub last : f.last_sent ≡ Some w.sent
  pub after : f.lease.first ≤ w.sent
  pub before : w.sent ≤ f.lease.last
  pub asks : takes_no_requests f.kind ≡ false

last_is : (o : Option ℕ) (sent : ℕ) → is_last o sent ≡ true → o ≡ Some sent
last_is None sent e = absurd cc
last_is (Some n) sent e = ap (λ (m : ℕ). Some m) (eqb-true n sent e)

last_passes : (o : Option ℕ) (sent : ℕ) → o ≡ Some sent → is_last o sent ≡ true
last_passes o sent e = ap (λ (p : Option ℕ). is_last p sent) e ∙ eqb_same sent

asked_is : (w : Waiting) (f : Flow) → has_asked w f ≡ true → HasAsked w f
asked_is w f e =
    let last = is_last f.last_sent w.sent in
    let t = and_parts (is_size w.n && leb w.sent last_time && is_last f.last_sent w.sent && leb f.lease.first w.sent && leb w.sent f.lease.last) (not (takes_no_requests f.kind)) e in
    let d = and_parts (is_size w.n && leb w.sent last_time && is_last f.last_sent w.sent && leb f.lease.first w.sent) (leb w.sent f.lease.last) t.0 in
    let c = and_parts (is_size w.n && leb w.sent last_time && is_last f.last_sent w.sent) (leb f.lease.first w.sent) d.0 in
    let b = and_parts (is_size w.n && leb w.sent last_time) (is_last f.last_sent w.sent) c.0 in
    let a = and_parts (is_size w.n) (leb w.sent last_time) b.0 in
    let size = and_parts (leb 1 w.n) (leb w.n 255) a.0 in
    record {
      some = leb-true _ _ size.0;
      most = leb-true _ _ size.1;
      time = leb-true _ _ a.1;
      last = last_is f.last_sent w.sent b.1;
      after = leb-true _ _ c.1;
      before = leb-true _ _ d.1;
      asks = not-true (takes_no_requests f.kind) t.1;
    }

asked_passes : (w : Waiting) (f : Flow) → HasAsked w f → has_asked w f ≡ true
asked_passes w f a =
    both _ _ (both _ _ (both _ _ (both _ _ (both _ _ (both _ _ (le_true 1 w.n a.some) (le_true w.n 255 a.most)) (le_true w.sent last_time a.time)) (last_passes f.last_sent w.sent a.last)) (le_true f.lease.first w.sent a.after)) (le_true w.sent f.lease.last a.before)) (ap not a.asks)

request_is_well : (fs : List Flow) (w : Waiting) → is_firm_request fs w ≡ true → IsWellRequest (map flow_view fs) w
request_is_well fs w e = by (find (λ f. eqb f.lease.sid w.sid) fs) refl e
  where
    by : (o : Option Flow) → find (λ f. eqb f.lease.sid w.sid) fs ≡ o → option_map_or (has_asked w) o false ≡ true → IsWellRequest (map flow_view fs) w
    by None at t = absurd cc
    by (Some f) at t =
        let found = found_has (λ (g : Flow). eqb g.lease.sid w.sid) fs f at in
        let a = asked_is w f t in
        record {
          some = a.some;
          most = a.most;
          time = a.time;
          flow = flow_view f;
          there = map_has flow_view fs f found.0;
          sid = eqb-true f.lease.sid w.sid found.1;
          last = a.last;
          after = a.after;
          before = a.before;
          asks = a.asks;
        }

well_request : (fs : List Flow) (w : Waiting) → RisingFrom 1 (map flow_view fs) → IsWellRequest (map flow_view fs) w → is_firm_request fs w ≡ true
well_request fs w rising r =
    let m = has_map flow_view fs r.flow r.there in
    let sid : m.0.lease.sid ≡ w.sid = ap (λ (x : FlowRow). x.sid) m.2 ∙ r.sid in
    let found = has_found (λ (g : Flow). eqb g.lease.sid w.sid) fs m.0 m.1 (same_true m.0.lease.sid w.sid sid) in
    let first = found_has (λ (g : Flow). eqb g.lease.sid w.sid) fs found.0 found.1 in
    let is : flow_view found.0 ≡ r.flow = one_flow 1 (map flow_view fs) (flow_view found.0) r.flow rising (map_has flow_view fs found.0 first.0) r.there (eqb-true found.0.lease.sid w.sid first.1 ∙ sym r.sid) in
    ap (λ (o : Option Flow). option_map_or (has_asked w) o false) found.1
    ∙ asked_passes w found.0 (record {
      some = r.some;
      most = r.most;
      time = r.time;
      last = ap (λ (x : FlowRow). x.last_sent) is ∙ r.last;
      after = subst (λ (x : FlowRow). x.first ≤ w.sent) (sym is) r.after;
      before = subst (λ (x : FlowRow). w.sent ≤ x.last) (sym is) r.before;
      asks = ap (λ (x : FlowRow). takes_no_requests x.kind) is ∙ r.asks;
    })

alone_is : (ws : List Waiting) → list_all (is_alone ws) ws ≡ true → (sid : ℕ) → length (filter (is_of sid) ws) ≤ 1
alone_is ws e sid = by (list_any (is_of sid) ws) refl
  where
    by : (b : Bool) → list_any (is_of sid) ws ≡ b → length (filter (is_of sid) ws) ≤ 1
    by true any =
        let w = any_has (is_of sid) ws any in
        let same : w.0.sid ≡ sid = eqb-true w.0.sid sid w.2 in
        let one : count_by (is_of w.0.sid) ws ≤ 1 = leb-true _ _ (all_pass (is_alone ws) ws e w.0 w.1) in
        let here : count_by (is_of sid) ws ≤ 1 = subst (λ n. count_by (is_of n) ws ≤ 1) same one in
        subst (λ n. n ≤ 1) (sym (length-filter (is_of sid) ws)) here
    by false none = subst (λ (vs : List Waiting). length vs ≤ 1) (sym (filter_empty (is_of sid) ws (λ w h. none_has (is_of sid) ws w none h))) (omega arith)

alone_passes : (ws : List Waiting) → ((sid : ℕ) → length (filter (is_of sid) ws) ≤ 1) → list_all (is_alone ws) ws ≡ true
alone_passes ws alone = pass_all (is_alone ws) ws (λ w h. le_true _ 1 (subst (λ n. n ≤ 1) (length-filter (is_of w.sid) ws) (alone w.sid)))

-- ---- a whole table

module _ (w : WholeTable) where
  abbrev start : ℕ
  start = w.row.next_start

  -- what its tests say
  pub record Passes : Type 0 where
    pub row : is_firm_row w.row ≡ true
    pub few : leb (length w.leases.items) last_sid ≡ true
    pub order : are_in_order 1 w.leases.items ≡ true
    pub leases : list_all (is_firm_lease start) w.leases.items ≡ true
    pub rising : are_rising 0 w.flows.items ≡ true
    pub flows : list_all (is_firm_flow start w.leases.items) w.flows.items ≡ true
    pub room : leb (length w.waiting.items) most_waiting ≡ true
    pub alone : list_all (is_alone w.waiting.items) w.waiting.items ≡ true
    pub requests : list_all (is_firm_request w.flows.items) w.waiting.items ≡ true

  passes : is_firm_whole w ≡ true → Passes
  passes e =
      let c = and_parts (is_firm_row w.row && are_firm_leases start w.leases.items && are_firm_flows start w.leases.items w.flows.items) (are_firm_requests w.flows.items w.waiting.items) e in
      let b = and_parts (is_firm_row w.row && are_firm_leases start w.leases.items) (are_firm_flows start w.leases.items w.flows.items) c.0 in
      let a = and_parts (is_firm_row w.row) (are_firm_leases start w.leases.items) b.0 in
      let ls = and_parts (leb (length w.leases.items) last_sid && are_in_order 1 w.leases.items) (list_all (is_firm_lease start) w.leases.items) a.1 in
      let l = and_parts (leb (length w.leases.items) last_sid) (are_in_order 1 w.leases.items) ls.0 in
      let fs = and_parts (are_rising 0 w.flows.items) (list_all (is_firm_flow start w.leases.items) w.flows.items) b.1 in
      let rs = and_parts (leb (length w.waiting.items) most_waiting && list_all (is_alone w.waiting.items) w.waiting.items) (list_all (is_firm_request w.flows.items) w.waiting.items) c.1 in
      let r = and_parts (leb (length w.waiting.items) most_waiting) (list_all (is_alone w.waiting.items) w.waiting.items) rs.0 in
      record { row = a.0; few = l.0; order = l.1; leases = ls.1; rising = fs.0; flows = fs.1; room = r.0; alone = r.1; requests = rs.1 }

  pub tests_pass : is_firm_whole w ≡ true → (f : Flow) → Has w.flows.items f → IsTested start w.leases.items f
  tests_pass e f h = tested start w.leases.items f (all_pass (is_firm_flow start w.leases.items) w.flows.items (passes e).flows f h)

  well_flow : (f : Flow) → IsTested start w.leases.items f → IsWellLease start f.lease → IsWellFlow (flow_view f)
  well_flow f t l = record { unicast = l.unicast; last = l.last; kind = t.kind; due = subst (λ n. n ≤ last_time + longest_interval) (due_is f.kind f.due t.kind t.due) t.soon }

  firm_well : Passes → IsWell (table_in w)
  firm_well p =
      let row = and_parts (is_good_channel w.row.channel && leb w.row.next_start last_time) (leb w.row.ack w.row.next_start) p.row in
      let more = and_parts (is_good_channel w.row.channel) (leb w.row.next_start last_time) row.0 in
      let order = order_is 1 w.leases.items p.order in
      let leases = λ (l : Lease) (h : Has w.leases.items l). lease_is_well start l (all_pass (is_firm_lease start) w.leases.items p.leases l h) in
      record {
        channel = more.0;
        next = leb-true _ _ more.1;
        ack = leb-true _ _ row.1;
        order = order;
        sids = leb-true _ _ p.few;
        flows = λ f h.
            let m = has_map flow_view w.flows.items f h in
            let t = tested start w.leases.items m.0 (all_pass (is_firm_flow start w.leases.items) w.flows.items p.flows m.0 m.1) in
            let stands = stands_found w.leases.items order m.0.lease t.stands in
            subst IsWellFlow m.2 (well_flow m.0 t (leases m.0.lease (found_has (is_of_sid m.0.lease.sid) w.leases.items m.0.lease stands).0));
        rising = rising_is 0 w.flows.items p.rising;
        given = λ f h.
            let m = has_map flow_view w.flows.items f h in
            let t = tested start w.leases.items m.0 (all_pass (is_firm_flow start w.leases.items) w.flows.items p.flows m.0 m.1) in
            subst (IsLeasedFlow (table_in w)) m.2 (record { lease = stands_found w.leases.items order m.0.lease t.stands; goes_on = t.goes_on });
        leases = leases;
        requests = λ r h. request_is_well w.flows.items r (all_pass (is_firm_request w.flows.items) w.waiting.items p.requests r h);
        alone = alone_is w.waiting.items p.alone;
        few = leb-true _ _ p.room;
      }

  pub firm_is : FitsChannel w.row.channel → is_firm_whole w ≡ true → IsFirm (table_in w) × (map lent_flow (table_in w).flows ≡ w.flows.items)
  firm_is fits e = (
    record { well = firm_well (passes e); fits = fits; idle_flows = views_idle w.flows.items },
    lent_again w.flows.items (λ f h. let t = tests_pass e f h in due_is f.kind f.due t.kind t.due),
  )

  flow_passes : IsFirm (table_in w) → map lent_flow (table_in w).flows ≡ w.flows.items → (f : Flow) → Has w.flows.items f → is_firm_flow start w.leases.items f ≡ true
  flow_passes firm dues f h =
      let row = map_has flow_view w.flows.items f h in
      let well = firm.well.flows (flow_view f) row in
      let given = firm.well.given (flow_view f) row in
      let due = lent_due w.flows.items dues f h in
      let soon : f.due ≤ last_time + longest_interval = subst (λ n. n ≤ last_time + longest_interval) (sym due) well.due in
      both _ _ (both _ _ (both _ _ (both _ _ well.kind (due_passes f.kind f.due well.kind due)) (le_true _ _ soon)) (le_true start f.lease.last given.goes_on))
      (found_stands w.leases.items firm.well.order f.lease given.lease)

  pub firm_passes : IsFirm (table_in w) → map lent_flow (table_in w).flows ≡ w.flows.items → is_firm_whole w ≡ true
  firm_passes firm dues =
      let well = firm.well in
      both _ _ (both _ _ (both _ _ (both _ _ (both _ _ well.channel (le_true _ _ well.next)) (le_true _ _ well.ack))
      (both _ _ (both _ _ (le_true _ _ well.sids) (in_order 1 w.leases.items well.order)) (pass_all (is_firm_lease start) w.leases.items (λ l h. well_lease start l (well.leases l h)))))
      (both _ _ (rising_passes 0 w.flows.items well.rising) (pass_all (is_firm_flow start w.leases.items) w.flows.items (flow_passes firm dues))))
      (both _ _ (both _ _ (le_true _ _ well.few) (alone_passes w.waiting.items well.alone)) (pass_all (is_firm_request w.flows.items) w.waiting.items (λ r h. well_request w.flows.items r well.rising (well.requests r h))))

  -- each of its flows may be put into a table of its row and leases
  pub may_all : IsFirm (table_in w) → map lent_flow (table_in w).flows ≡ w.flows.items → (t : Table) → t.row ≡ w.row → t.leases ≡ w.leases.items → AllByRecursion (MayBePut t) w.flows.items
  may_all firm dues t row leases = all_has (MayBePut t) w.flows.items (λ f h.
      let there = map_has flow_view w.flows.items f h in
      let given = firm.well.given (flow_view f) there in
      record {
        good = (firm.well.flows (flow_view f) there).kind;
        due = lent_due w.flows.items dues f h;
        leased = record {
          lease = ap (find (is_of_sid f.lease.sid)) leases ∙ given.lease;
          goes_on = subst (λ (r : ChannelRow). r.next_start ≤ f.lease.last) (sym row) given.goes_on;
        };
      })
