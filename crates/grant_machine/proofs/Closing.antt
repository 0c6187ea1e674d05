-- The rows after a MAP is closed, and the elements of its body.
use Rattle.std.proofs.Common.{◌≡◌, ℕ, ◌+◌, ◌<◌, ◌≤◌, Bool, true, false, cond, not, ◌&&◌, max, List, [], ◌∷◌, ◌++◌, map}
use Rattle.std.proofs.Common.{filter, length, Option, Some, None, refl, sym, ap, subst, ◌∙◌, arith, eqb, leb, ltb}
use Rattle.std.specs.List.{find, list_any, filter_map, range_with_len, AllByRecursion, AllZip}
use Rattle.std.specs.Option.{option_map_or}
use Rattle.std.proofs.lemmas.Bool.{eqb-true, false_from_ne_true, le-leb}
use Rattle.minislot_time.specs.Extent.{Extent}
use Rattle.map_body.specs.declared.element.Element.{Element}
use Rattle.map_body.specs.Layout.{layout}
use Rattle.flow_state.specs.declared.refusal.Refusal.TheVariants.{NoChannel, BadValue}
use Rattle.grant_machine.specs.declared.output.Output.TheVariants as outputs
use Rattle.grant_machine.specs.Steps.{cut_command, Step, step, step_on, cut_on, cut_step}
use Rattle.flow_state.specs.declared.channel.Channel.{Channel}
use Rattle.flow_state.specs.declared.flow.Flow.{Flow}
use Rattle.flow_state.specs.declared.flow.FlowKind.{FlowKind}
use Rattle.flow_state.specs.declared.flow.Waiting.{Waiting}
use Rattle.flow_state.specs.Limits.{last_time, most_minislots, due_index, IsDueTime}
use Rattle.flow_state.specs.Rows.{Rows, Table, FlowRow, is_table, table_of, change_table, is_flow, flow_of, last_in}
use Rattle.flow_state.specs.Rows.{last_of, is_ended, has_ended}
use Rattle.flow_state.specs.Changes.{waiting_of, close_table, told_due, TellsDue, finish_table, with_cut_finished}
use Rattle.grant_machine.specs.declared.cut.Draft.{Draft}
use Rattle.grant_machine_parts.specs.declared.placing.Placement.{Placement}
use Rattle.grant_machine_parts.specs.declared.settings.CutSettings.{CutSettings}
use Rattle.grant_machine_parts.specs.Cutting.{Filled, fill, fill_refusal, span_of, ack_of, end_of, in_order}
use Rattle.grant_machine_parts.specs.Cutting.{still_waiting, is_grant_of, flows_left, requests_left, table_after}
use Rattle.grant_machine_parts.specs.Cutting.{flows_served}
use Rattle.grant_machine_parts.specs.Drawing.{begins_at, null_element, pending_element, elements_of, head_of}
use Rattle.grant_machine.specs.Runs.{IsReached}
use Rattle.grant_machine_parts.specs.Lent.{IsLent, IsUnicast}
use Rattle.grant_machine.specs.CutRows.{IsReachedTable, was_due, due_ones, rows_closed}
use Rattle.grant_machine_parts.specs.Ranks.{requests_in, going_on, IsOfLast}
use Rattle.grant_machine_parts.specs.declared.waiting.Ranked.{Ranked}
use Rattle.grant_machine.specs.Plans.{IsFilledBy, elements_in}
use Rattle.flow_state.proofs.Callers.{some_is}
use Rattle.flow_state.proofs.Callers.{eqb_same}
use Rattle.flow_state.proofs.Callers.{filter_alike, filter_swap}
use Rattle.flow_state.proofs.Callers.{Has, map_has, all_has, has_all, found_has, has_filter}
use Rattle.flow_state.proofs.Callers.{IsWell, RisingFrom, one_flow}
use Rattle.flow_state.specs.View.{flow_view}
use Rattle.grant_machine_parts.proofs.Callers.{Moves, fill_moves, served_from, is_cut}
use Rattle.grant_machine.proofs.Reached.{reached_is_well}
use Rattle.grant_machine.proofs.Standing.{Apart, reached_apart}
use Rattle.flow_state.proofs.Callers.{due_set, told_after, untold}
use Rattle.grant_machine.proofs.Settling.{Stays, stays_served, unicast}
use Rattle.grant_machine_parts.proofs.Callers.{cut_few, passing_in_order}

-- ---- changes of one channel's table

change_absent : (rows : Rows) (ch : ℕ) (change : Table → Table) → table_of rows ch ≡ None → change_table rows ch change ≡ rows
change_absent [] ch change e = refl
change_absent (t ∷ rows) ch change e = elim (is_table ch t) as (λ b. cond b (Some t) (table_of rows ch) ≡ None → cond b (change t) t ∷ change_table rows ch change ≡ t ∷ rows) [ true ↦ λ f. absurd cc | false ↦ λ f. ap (λ (r : Rows). t ∷ r) (change_absent rows ch change f) ] e

-- a change is what it does to the one table of the channel
change_at : (rows : Rows) (ch : ℕ) (t : Table) (first second : Table → Table) → Apart rows → table_of rows ch ≡ Some t → first t ≡ second t → change_table rows ch first ≡ change_table rows ch second
change_at [] ch t first second a e same = absurd cc
change_at (u ∷ rows) ch t first second a e same =
    elim (is_table ch u) as (λ b. is_table ch u ≡ b → cond b (Some u) (table_of rows ch) ≡ Some t → cond b (first u) u ∷ change_table rows ch first ≡ cond b (second u) u ∷ change_table rows ch second) [
      | true ↦ λ h f.
          let here : u ≡ t = some_is u t f in
          let others : table_of rows ch ≡ None = subst (λ i. table_of rows i ≡ None) (eqb-true _ _ h) a.0 in
          let one : first u ≡ second u = ap first here ∙ same ∙ ap second (sym here) in
          ap (λ (v : Table). v ∷ change_table rows ch first) one ∙ ap (λ (r : Rows). second u ∷ r) (change_absent rows ch first others ∙ sym (change_absent rows ch second others))
      | false ↦ λ h f. ap (λ (r : Rows). u ∷ r) (change_at rows ch t first second a.1 f same)
    ] refl e

-- ---- due times

abbrev set_flows : List Flow → List FlowRow → List FlowRow
set_flows [] fs = fs
set_flows (s ∷ ss) fs = set_flows ss (map (due_set s.lease.sid s.due) fs)

-- what is told flow by flow is set list by list
told_are : (ss : List Flow) (fs : List FlowRow) → map (told_due ss) fs ≡ set_flows ss fs
told_are [] fs = untold fs
told_are (s ∷ ss) fs = told_after s ss fs ∙ told_are ss (map (due_set s.lease.sid s.due) fs)

-- flows of greater SIDs stay
unset : (sid due low : ℕ) (fs : List FlowRow) → RisingFrom low fs → sid < low → map (due_set sid due) fs ≡ fs
unset sid due low [] r lt = refl
unset sid due low (f ∷ fs) r lt =
    let off : is_flow sid f ≡ false = false_from_ne_true (is_flow sid f) (λ e. let same : f.sid ≡ sid = eqb-true _ _ e in omega (arith, r.0)) in
    ap (λ b. cond b (record f { index = due_index f.kind due }) f ∷ map (due_set sid due) fs) off ∙ ap (λ (gs : List FlowRow). f ∷ gs) (unset sid due (f.sid + 1) fs r.1 (omega (arith, r.0)))

abbrev AreAbove : ℕ → List Flow → Type 0
AreAbove low ss = AllByRecursion (λ s. low ≤ s.lease.sid) ss

above_weaker : (low more : ℕ) (ss : List Flow) → low ≤ more → AreAbove more ss → AreAbove low ss
above_weaker low more [] le a = tt
above_weaker low more (s ∷ ss) le a = (omega (arith, a.0), above_weaker low more ss le a.1)

moved_sid : (f : FlowRow) (s : Flow) → Moves f (flow_view s) → s.lease.sid ≡ f.sid
moved_sid f s m = ap (λ (g : FlowRow). g.sid) m.is

-- the first flow stays, where all others are above it
head_stays : (g : FlowRow) (ss : List Flow) (fs : List FlowRow) → AreAbove (g.sid + 1) ss → set_flows ss (g ∷ fs) ≡ g ∷ set_flows ss fs
head_stays g [] fs a = refl
head_stays g (s ∷ ss) fs a =
    let off : is_flow s.lease.sid g ≡ false = false_from_ne_true (is_flow s.lease.sid g) (λ e. let same : g.sid ≡ s.lease.sid = eqb-true _ _ e in omega (arith, a.0)) in
    ap (λ b. set_flows ss (cond b (record g { index = due_index g.kind s.due }) g ∷ map (due_set s.lease.sid s.due) fs)) off ∙ head_stays g ss (map (due_set s.lease.sid s.due) fs) a.1

is_set : (f : FlowRow) (s : Flow) → Moves f (flow_view s) → due_set s.lease.sid s.due f ≡ flow_view s
is_set f s m =
    let kind : f.kind ≡ s.kind = sym (ap (λ (g : FlowRow). g.kind) m.is) in
    let index : due_index s.kind s.due ≡ m.index = ap (λ (g : FlowRow). g.index) m.is in
    ap (λ n. cond (eqb f.sid n) (record f { index = due_index f.kind s.due }) f) (moved_sid f s m)
    ∙ ap (λ b. cond b (record f { index = due_index f.kind s.due }) f) (eqb_same f.sid)
    ∙ ap (λ (k : FlowKind). record f { index = due_index k s.due }) kind
    ∙ ap (λ i. record f { index = i }) index
    ∙ sym m.is

-- those that were due of the flows that moved, one by one
module _ (was : FlowRow → Bool) (keeps : (f : FlowRow) (i : ℕ) → was (record f { index = i }) ≡ was f) where
  passed : (g : FlowRow) (gs : List FlowRow) → was g ≡ false → filter was (g ∷ gs) ≡ filter was gs
  passed g gs e = ap (λ b. cond b (g ∷ filter was gs) (filter was gs)) e

  first_due : (g : FlowRow) (gs : List FlowRow) → was g ≡ true → filter was (g ∷ gs) ≡ g ∷ filter was gs
  first_due g gs e = ap (λ b. cond b (g ∷ filter was gs) (filter was gs)) e

  above : (low : ℕ) (fs gs : List FlowRow) (ss : List Flow) → RisingFrom low fs → AllZip Moves fs gs → filter was gs ≡ map flow_view ss → AreAbove low ss
  above low [] [] [] r z e = tt
  above low [] [] (s ∷ ss) r z e = absurd cc
  above low [] (g ∷ gs) ss r z e = absurd z
  above low (f ∷ fs) [] ss r z e = absurd z
  above low (f ∷ fs) (g ∷ gs) ss r z e = by (λ us h. above (f.sid + 1) fs gs us r.1 z.1 h) (was g) refl ss e
    where
      by : ((us : List Flow) → filter was gs ≡ map flow_view us → AreAbove (f.sid + 1) us) → (b : Bool) → was g ≡ b → (us : List Flow) → filter was (g ∷ gs) ≡ map flow_view us → AreAbove low us
      by rest false k us h = above_weaker low (f.sid + 1) us (omega (arith, r.0)) (rest us (sym (passed g gs k) ∙ h))
      by rest true k [] h = absurd (let there : g ∷ filter was gs ≡ [] = sym (first_due g gs k) ∙ h in cc)
      by rest true k (u ∷ us) h =
          let there : g ∷ filter was gs ≡ flow_view u ∷ map flow_view us = sym (first_due g gs k) ∙ h in
          let first : g ≡ flow_view u = cc in
          let others : filter was gs ≡ map flow_view us = cc in
          let same : u.lease.sid ≡ f.sid = ap (λ (x : FlowRow). x.sid) (sym first) ∙ ap (λ (x : FlowRow). x.sid) z.0.is in
          (omega (arith, r.0, same), above_weaker low (f.sid + 1) us (omega (arith, r.0)) (rest us others))

  all_set : (low : ℕ) (fs gs : List FlowRow) (ss : List Flow) → RisingFrom low fs → AllZip Moves fs gs → AllZip (Stays was) fs gs → filter was gs ≡ map flow_view ss → set_flows ss fs ≡ gs
  all_set low [] [] [] r z st e = refl
  all_set low [] [] (s ∷ ss) r z st e = absurd cc
  all_set low [] (g ∷ gs) ss r z st e = absurd z
  all_set low (f ∷ fs) [] ss r z st e = absurd z
  all_set low (f ∷ fs) (g ∷ gs) ss r z st e = by (λ us h. all_set (f.sid + 1) fs gs us r.1 z.1 st.1 h) (was g) refl ss e
    where
      by : ((us : List Flow) → filter was gs ≡ map flow_view us → set_flows us fs ≡ gs) → (b : Bool) → was g ≡ b → (us : List Flow) → filter was (g ∷ gs) ≡ map flow_view us → set_flows us (f ∷ fs) ≡ g ∷ gs
      by rest false k us h =
          let others : filter was gs ≡ map flow_view us = sym (passed g gs k) ∙ h in
          let moved : Moves f g = z.0 in
          let same : g ≡ f = st.0 (sym (keeps f moved.index) ∙ ap was (sym moved.is) ∙ k) in
          head_stays f us fs (above (f.sid + 1) fs gs us r.1 z.1 others) ∙ ap (λ (hs : List FlowRow). f ∷ hs) (rest us others) ∙ ap (λ (x : FlowRow). x ∷ gs) (sym same)
      by rest true k [] h = absurd (let there : g ∷ filter was gs ≡ [] = sym (first_due g gs k) ∙ h in cc)
      by rest true k (u ∷ us) h =
          let there : g ∷ filter was gs ≡ flow_view u ∷ map flow_view us = sym (first_due g gs k) ∙ h in
          let first : g ≡ flow_view u = cc in
          let others : filter was gs ≡ map flow_view us = cc in
          let moved : Moves f (flow_view u) = subst (Moves f) first z.0 in
          let same = moved_sid f u moved in
          ap (λ (x : FlowRow). set_flows us (x ∷ map (due_set u.lease.sid u.due) fs)) (is_set f u moved)
          ∙ ap (λ (xs : List FlowRow). set_flows us (flow_view u ∷ xs)) (unset u.lease.sid u.due (f.sid + 1) fs r.1 (omega arith))
          ∙ head_stays (flow_view u) us fs (above_weaker (u.lease.sid + 1) (f.sid + 1) us (omega arith) (above (f.sid + 1) fs gs us r.1 z.1 others))
          ∙ ap (λ (xs : List FlowRow). flow_view u ∷ xs) (rest us others)
          ∙ ap (λ (x : FlowRow). x ∷ gs) (sym first)

-- ---- requests

abbrev is_granted : List Placement → Waiting → Bool
is_granted ps w = list_any (is_grant_of w) ps

-- ---- a MAP that is closed

-- the next MAP's times are early
pub table_early : (t : Table) → IsReachedTable t → (t.row.next_start ≤ last_time) × (t.row.ack ≤ last_time)
table_early t r = let well = reached_is_well r.rows r.reached r.channel t r.found in let next = well.next in let ack = well.ack in (omega arith, omega arith)

-- a lease ends as soon, whichever due time of its flow is next
ended_same : (end sid : ℕ) (fs gs : List FlowRow) → AllZip Moves fs gs → option_map_or (is_ended end) (find (is_flow sid) gs) false ≡ option_map_or (is_ended end) (find (is_flow sid) fs) false
ended_same end sid [] [] z = refl
ended_same end sid [] (g ∷ gs) z = absurd z
ended_same end sid (f ∷ fs) [] z = absurd z
ended_same end sid (f ∷ fs) (g ∷ gs) z =
    ap (λ (x : FlowRow). option_map_or (is_ended end) (cond (is_flow sid x) (Some x) (find (is_flow sid) gs)) false) z.0.is
    ∙ elim (is_flow sid f) as (λ b. option_map_or (is_ended end) (cond b (Some (record f { index = z.0.index })) (find (is_flow sid) gs)) false ≡ option_map_or (is_ended end) (cond b (Some f) (find (is_flow sid) fs)) false) [
      | true ↦ refl
      | false ↦ ended_same end sid fs gs z.1
    ]

abbrev after_of : Table → (end ack : ℕ) → (fs : List FlowRow) → (ws : List Waiting) → Table
after_of t end ack fs ws = close_table (record t { flows = fs; waiting = ws }) end ack

module _ (rows : Rows) (ch : ℕ) (t : Table) (asks : CutSettings) (x : Draft) (reached : IsReached rows) (found : table_of rows ch ≡ Some t) (ok : fill_refusal t.row asks ≡ None) (by : IsFilledBy t (span_of t.row asks.len asks.not_before) asks x) where
  abbrev filled : Filled
  filled = fill t asks

  abbrev span : Extent
  span = span_of t.row asks.len asks.not_before

  well : IsWell t
  well = reached_is_well rows reached ch t found

  ended : end_of (span_of t.row asks.len asks.not_before) ≤ last_time
  ended = (is_cut t asks ok).end

  rows_told : map (told_due x.flows.items) t.flows ≡ flows_served t span
  rows_told =
      told_are x.flows.items t.flows
      ∙ all_set (was_due t (end_of span)) (λ f i. refl) 1 t.flows (flows_served t span) x.flows.items well.rising (fill_moves t span ended) (stays_served t span well) (sym by.flows)

  abbrev waits_on : List Waiting
  waits_on = still_waiting filled.placements t.waiting

  requests_kept : still_waiting x.filling.placements (waiting_of (table_of rows ch)) ≡ waits_on
  requests_kept = ap (λ (o : Option Table). still_waiting x.filling.placements (waiting_of o)) found ∙ ap (λ (ps : List Placement). still_waiting ps t.waiting) by.placements

  -- what closing takes out is what ends with the MAP
  closed_is : after_of t (end_of span) filled.ack (flows_served t span) waits_on ≡ table_after t filled
  closed_is =
      ap (λ (ws : List Waiting). record { row = record t.row { next_start = end_of span; ack = filled.ack }; leases = t.leases; flows = flows_left span (flows_served t span); waiting = ws })
      (filter_alike (λ w. not (has_ended (record t { flows = flows_served t span; waiting = waits_on }) (end_of span) w)) (λ w. not (has_ended t (end_of span) w)) waits_on
      (λ w h. ap not (ended_same (end_of span) w.sid t.flows (flows_served t span) (fill_moves t span ended))))

  pub closed_rows : rows_closed rows ch x.flows.items x.filling.placements (end_of x.filling.span) filled.ack ≡ change_table rows ch (λ u. table_after u filled)
  closed_rows =
      ap (λ (ws : List Waiting). with_cut_finished rows ch x.flows.items ws (end_of x.filling.span) filled.ack) requests_kept
      ∙ change_at rows ch t (λ u. finish_table u x.flows.items waits_on (end_of x.filling.span) filled.ack) (λ u. table_after u filled) (reached_apart rows reached) found
      (ap (λ (s : Extent). after_of t (end_of s) filled.ack (map (told_due x.flows.items) t.flows) waits_on) by.span_is
      ∙ ap (λ (fs : List FlowRow). after_of t (end_of span) filled.ack fs waits_on) rows_told
      ∙ closed_is)

  -- the flows tell due times of the table's
  pub all_tell : AllByRecursion (TellsDue t) x.flows.items
  all_tell = all_has (TellsDue t) x.flows.items (λ f h row at.
      let kept : Has (due_ones t (end_of span) (flows_served t span)) (flow_view f) = subst (λ (gs : List FlowRow). Has gs (flow_view f)) by.flows (map_has flow_view x.flows.items f h) in
      let there : Has (flows_served t span) (flow_view f) = (has_filter (was_due t (end_of span)) (flows_served t span) (flow_view f) kept).0 in
      let from = served_from t (flows_served t span) (flow_view f) (fill_moves t span ended) there in
      let has = found_has (is_flow f.lease.sid) t.flows row at in
      let sid : row.sid ≡ from.0.sid = eqb-true _ _ has.1 ∙ from.2.sid in
      let same : row ≡ from.0 = one_flow 1 t.flows row from.0 well.rising has.0 from.1 sid in
      let kind : f.kind ≡ row.kind = from.2.kind ∙ ap (λ (g : FlowRow). g.kind) (sym same) in
      subst (λ (k : FlowKind). IsDueTime k f.due) kind (due_index f.kind f.due, (has_all IsLent x.flows.items f by.lent h).due))

-- ---- the elements of its body

-- a request goes on where its lease does
goes_with : (t : Table) (end : ℕ) (w : Waiting) → end ≤ last_time → leb end (last_of t w.sid) ≡ not (has_ended t end w)
goes_with t end w le = by (flow_of t w.sid)
  where
    turned : (m n : ℕ) → leb m n ≡ not (ltb n m)
    turned m n = grind arith

    by : (o : Option FlowRow) → leb end (last_in o) ≡ not (option_map_or (is_ended end) o false)
    by (Some f) = turned end f.last
    by None = le-leb end last_time le

going_requests : (t : Table) (end : ℕ) (rs : List Ranked) → end ≤ last_time → AllByRecursion (IsOfLast (last_of t)) rs → requests_in (going_on end rs) ≡ filter (λ w. not (has_ended t end w)) (requests_in rs)
going_requests t end [] le lasts = refl
going_requests t end (r ∷ rs) le lasts =
    ap (λ b. requests_in (cond b (r ∷ going_on end rs) (going_on end rs))) (ap (leb end) lasts.0 ∙ goes_with t end r.request le)
    ∙ elim (has_ended t end r.request) as (λ b. requests_in (cond (not b) (r ∷ going_on end rs) (going_on end rs)) ≡ cond (not b) (r.request ∷ filter (λ w. not (has_ended t end w)) (requests_in rs)) (filter (λ w. not (has_ended t end w)) (requests_in rs))) [
      | true ↦ going_requests t end rs le lasts.1
      | false ↦ ap (λ (ws : List Waiting). r.request ∷ ws) (going_requests t end rs le lasts.1)
    ]

-- those that still wait and go on, in order
waiting_in_order : (t : Table) (span : Extent) (ps : List Placement) (rs : List Ranked) → end_of span ≤ last_time → requests_in rs ≡ in_order t t.waiting → AllByRecursion (IsOfLast (last_of t)) rs
    → still_waiting ps (requests_in (going_on (end_of span) rs)) ≡ in_order t (requests_left t span (still_waiting ps t.waiting))
waiting_in_order t span ps rs le is lasts =
    let goes : Waiting → Bool = λ w. not (has_ended t (end_of span) w) in
    let waits : Waiting → Bool = λ w. not (is_granted ps w) in
    ap (λ (ws : List Waiting). still_waiting ps ws) (going_requests t (end_of span) rs le lasts ∙ ap (λ (ws : List Waiting). filter goes ws) is ∙ passing_in_order t goes t.waiting)
    ∙ passing_in_order t waits (filter goes t.waiting)
    ∙ ap (in_order t) (filter_swap waits goes t.waiting)

abbrev drawn : Channel → List Placement → ℕ → List Waiting → List Element
drawn c ps len rs = filter_map (begins_at ps) (range_with_len 0 len) ++ null_element len ∷ map (pending_element c len) rs

pub elements_are : (t : Table) (asks : CutSettings) (x : Draft) (c : Channel) → end_of (span_of t.row asks.len asks.not_before) ≤ last_time → t.row.channel ≡ c → IsFilledBy t (span_of t.row asks.len asks.not_before) asks x → elements_in c x ≡ elements_of t (fill t asks)
elements_are t asks x c le same by =
    let f : Filled = fill t asks in
    ap (λ (d : Channel). elements_in d x) (sym same)
    ∙ ap (λ (s : Extent). drawn t.row.channel x.filling.placements s.len (still_waiting x.filling.placements (requests_in (going_on (end_of s) x.ranked.items)))) by.span_is
    ∙ ap (λ (ps : List Placement). drawn t.row.channel ps asks.len (still_waiting ps (requests_in (going_on (end_of f.span) x.ranked.items)))) by.placements
    ∙ ap (λ (ws : List Waiting). drawn t.row.channel f.placements asks.len ws) (waiting_in_order t f.span f.placements x.ranked.items le by.requests by.lasts)

-- ---- a cut that isn't refused

-- a MAP may begin where it does, with the Ack Time that it has
abbrev pub settled : Table → CutSettings → CutSettings
settled t asks = record asks { not_before = max t.row.next_start asks.not_before; ack = ack_of t.row asks.ack (max t.row.next_start asks.not_before) }

pub good_again : (t : Table) (asks : CutSettings) → IsReachedTable t → fill_refusal t.row asks ≡ None
    → fill_refusal t.row (settled t asks) ≡ None
good_again t asks r ok =
    let cut = is_cut t asks ok in
    let early = table_early t r in
    let some = cut.some in
    let most = cut.most in
    let end = cut.end in
    within _ _ _ _ _ _ (le-leb 1 asks.len some) (le-leb asks.len most_minislots most) (le-leb (max t.row.next_start asks.not_before) last_time (omega (arith, end)))
    (le-leb (ack_of t.row asks.ack (max t.row.next_start asks.not_before)) last_time (omega (arith, early.0, early.1, end)))
    (le-leb (max t.row.next_start (max t.row.next_start asks.not_before) + asks.len) last_time (omega (arith, end)))
    cut.limits
  where
    within : (a b c d e f : Bool) → a ≡ true → b ≡ true → c ≡ true → d ≡ true → e ≡ true → f ≡ true → cond (a && b && c && d && e && f) None (Some BadValue) ≡ None
    within a b c d e f pa pb pc pd pe pf = rw (pa, pb, pc, pd, pe, pf) refl

-- a MAP that begins no earlier than it may is filled from its own beginning
pub filled_again : (t : Table) (asks : CutSettings) (x : Draft) → t.row.next_start ≤ asks.not_before → IsFilledBy t (record { start = asks.not_before; len = asks.len }) asks x → IsFilledBy t (span_of t.row asks.len asks.not_before) asks x
filled_again t asks x begun by = subst (λ n. IsFilledBy t (record { start = n; len = asks.len }) asks x) (let same : asks.not_before ≡ max t.row.next_start asks.not_before = omega (arith, begun) in same) by

module _ (t : Table) (asks : CutSettings) (x : Draft) (r : IsReachedTable t) (ok : fill_refusal t.row asks ≡ None) (by : IsFilledBy t (span_of t.row asks.len asks.not_before) asks x) where
  abbrev made : Filled
  made = fill t asks

  well_table : IsWell t
  well_table = reached_is_well r.rows r.reached r.channel t r.found

  drawn_are : elements_in t.row.channel x ≡ elements_of t made
  drawn_are = elements_are t asks x t.row.channel (is_cut t asks ok).end refl by

  pub made_unicast : AllByRecursion IsUnicast x.ranked.items
  made_unicast = unicast t well_table x.ranked.items by.requests

  pub made_few : length (elements_in t.row.channel x) ≤ 255
  made_few = let few = cut_few t asks well_table ok in let same : length (elements_in t.row.channel x) ≡ length (elements_of t made) = ap length drawn_are in omega arith

  pub made_tell : AllByRecursion (TellsDue t) x.flows.items
  made_tell = all_tell r.rows r.channel t asks x r.reached r.found ok by

  step_is : step r.rows (cut_command r.channel asks) ≡ cut_step r.rows r.channel t made
  step_is =
      ap (λ o. step_on (option_map_or (λ u. fill_refusal u.row asks) o (Some NoChannel)) r.rows (cut_command r.channel asks)) r.found
      ∙ ap (λ o. step_on o r.rows (cut_command r.channel asks)) ok
      ∙ ap (λ o. cut_on o r.rows r.channel asks) r.found

  pub made_rows : rows_closed r.rows r.channel x.flows.items x.filling.placements (end_of x.filling.span) made.ack ≡ (step r.rows (cut_command r.channel asks)).rows
  made_rows = closed_rows r.rows r.channel t asks x r.reached r.found ok by ∙ ap (λ (s : Step). s.rows) (sym step_is)

  pub made_output : outputs.Map r.channel made.span.start asks.len (layout (head_of made.told made.span.start made.ack) (elements_in t.row.channel x) 0) ≡ (step r.rows (cut_command r.channel asks)).output
  made_output =
      ap (λ (es : List Element). outputs.Map r.channel made.span.start asks.len (layout (head_of made.told made.span.start made.ack) es 0)) drawn_are ∙ ap (λ (s : Step). s.output) (sym step_is)
