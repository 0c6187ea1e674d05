-- Once a request was accepted, each later one of its SID was sent later, also under a later lease.
use Rattle.std.proofs.Common.{◌≡◌, ◌≢◌, ◌⊎◌, ℕ, ◌<◌, ◌≤◌, Bool, true, false, cond, not, List, Option, Some, None, refl}
use Rattle.std.proofs.Common.{sym, ap, subst, ◌∙◌, arith, inl, inr, eqb}
use Rattle.std.specs.List.{find, list_any}
use Rattle.std.specs.Prelude.{unwrap_or}
use Rattle.std.proofs.lemmas.Bool.{eqb-true, eqb-false, leb-false}
use Rattle.flow_state.specs.declared.settings.ChannelSettings.{ChannelSettings}
use Rattle.flow_state.specs.declared.flow.FlowKind.{FlowKind}
use Rattle.flow_state.specs.declared.flow.Waiting.{Waiting}
use Rattle.flow_state.specs.declared.flow.Lease.{Lease}
use Rattle.flow_state.specs.Rows.{Table, FlowRow, is_of, is_of_sid, is_flow, lease_of, free_sid, first_of, put_lease}
use Rattle.flow_state.specs.Rows.{has_ended, lease_in}
use Rattle.flow_state.specs.Refusals.{is_repeated, table_change_refusal, table_flow_refusal, table_request_refusal}
use Rattle.flow_state.specs.Changes.{change_in_table, new_flow, new_lease, flow_among, drop_in_table, request_in_table}
use Rattle.grant_machine_parts.specs.declared.placing.Placement.{Placement}
use Rattle.grant_machine_parts.specs.declared.settings.CutSettings.{CutSettings}
use Rattle.grant_machine_parts.specs.Cutting.{is_grant_of, still_waiting, fill, fill_refusal, span_of, end_of}
use Rattle.grant_machine_parts.specs.Cutting.{table_after}
use Rattle.flow_state.proofs.Callers.{Has, has_pushed, has_map, has_filter, found_has}
use Rattle.flow_state.proofs.Callers.{eqb_same, put_found, put_others}
use Rattle.flow_state.proofs.Callers.{IsWell, has_inserted, change_is_well, flow_is_well, drop_is_well, request_is_well}
use Rattle.flow_state.proofs.Callers.{is_asked, asked, asked_same}
use Rattle.grant_machine_parts.proofs.Callers.{is_cut, flow_from, cut_is_well}
use Rattle.grant_machine.proofs.Reached.{Kept}
use Rattle.grant_machine.proofs.Leases.{IsNew, is_new}

-- the flow's last accepted request was sent at this time or later, or its lease begins later
abbrev pub IsSentBy : FlowRow → ℕ → Type 0
IsSentBy f sent = (sent < f.first) ⊎ ((last : ℕ) × (f.last_sent ≡ Some last) × (sent ≤ last))

-- a request of the SID was accepted that was sent then, by the end of the SID's latest lease
pub record WasAsked (t : Table) (sid sent : ℕ) : Type 0 where
  pub well : IsWell t
  pub lease : Lease
  pub found : find (is_of_sid sid) t.leases ≡ Some lease
  pub before : sent ≤ lease.last
  pub later : (f : FlowRow) → Has t.flows f → f.sid ≡ sid → IsSentBy f sent

-- a request that isn't old was sent later
pub newer : (f : FlowRow) (sent next : ℕ) → IsSentBy f sent → f.first ≤ next → is_repeated f.last_sent next ≡ false → sent < next
newer f sent next (inl before) begun e = omega arith
newer f sent next (inr by) begun e = let lt = leb-false next by.0 (ap (λ (o : Option ℕ). is_repeated o next) (sym by.1) ∙ e) in let le = by.2 in omega arith

pub sent_after : (f : FlowRow) (sent next : ℕ) → f.last_sent ≡ Some next → sent ≤ next → IsSentBy f sent
sent_after f sent next e le = inr (next, e, le)

-- a flow with the same lease and the same last request
sent_same : (f g : FlowRow) (sent : ℕ) → g.first ≡ f.first → g.last_sent ≡ f.last_sent → IsSentBy f sent → IsSentBy g sent
sent_same f g sent first last (inl before) = inl (omega arith)
sent_same f g sent first last (inr by) = inr (by.0, last ∙ by.1, by.2)

asked_flow : (t : Table) (modem tag last : ℕ) (kind : FlowKind) (sid sent : ℕ) → lease_of t modem tag ≡ None → table_flow_refusal t modem tag last kind ≡ None → WasAsked t sid sent → WasAsked (flow_among None t modem tag last kind) sid sent
asked_flow t modem tag last kind sid sent e ok w =
    let n = is_new t modem tag last kind e ok in
    by (eqb (unwrap_or (free_sid t) 0) sid) refl n
  where
    at : ℕ
    at = unwrap_or (free_sid t) 0

    given : Lease
    given = new_lease t modem tag last (unwrap_or (free_sid t) 0)

    well : IsWell (flow_among None t modem tag last kind)
    well = flow_is_well None t modem tag last kind e ok w.well

    -- the SID's lease is over, where the new one is of the SID
    past : IsNew t at last → at ≡ sid → (w.lease.last < t.row.next_start) × (first_of t at ≡ t.row.next_start)
    past n same = let had = found_has (is_of_sid sid) t.leases w.lease w.found in n.over w.lease had.0 (eqb-true _ _ had.1 ∙ sym same)

    by : (b : Bool) → eqb at sid ≡ b → IsNew t at last → WasAsked (flow_among None t modem tag last kind) sid sent
    by true h n =
        let over = past n (eqb-true _ _ h) in
        let ends : w.lease.last < t.row.next_start = over.0 in
        let begins : first_of t at ≡ t.row.next_start = over.1 in
        let on : t.row.next_start ≤ last = n.goes_on in
        let before : sent ≤ w.lease.last = w.before in
        record {
          well = well;
          lease = given;
          found = ap (λ m. find (is_of_sid m) (put_lease given t.leases)) (sym (eqb-true _ _ h)) ∙ put_found given t.leases;
          before = omega arith;
          later = λ f k same. elim (has_inserted (new_flow given kind) t.flows f k) [
            | inl old ↦ w.later f old same
            | inr new ↦ inl (let first : first_of t at ≡ f.first = ap (λ (g : FlowRow). g.first) new in omega arith)
          ];
        }
    by false h n = record {
      well = well;
      lease = w.lease;
      found = put_others given t.leases sid h ∙ w.found;
      before = w.before;
      later = λ f k same. elim (has_inserted (new_flow given kind) t.flows f k) [
        | inl old ↦ w.later f old same
        | inr new ↦ absurd (eqb-false _ _ h (ap (λ (g : FlowRow). g.sid) new ∙ same))
      ];
    }

asked_drop : (t : Table) (at sid sent : ℕ) → WasAsked t sid sent → WasAsked (drop_in_table t at) sid sent
asked_drop t at sid sent w = record {
  well = drop_is_well t at w.well;
  lease = w.lease;
  found = w.found;
  before = w.before;
  later = λ f h same. w.later f (has_filter (λ g. not (is_flow at g)) t.flows f h).0 same;
}

-- what a request leaves of a flow: its time last where it is the flow's
flow_asked : (at next : ℕ) (f : FlowRow) → ((f.sid ≡ at) × ((asked at next f).last_sent ≡ Some next)) ⊎ ((asked at next f).last_sent ≡ f.last_sent)
flow_asked at next f = by (eqb f.sid at) refl
  where
    by : (b : Bool) → eqb f.sid at ≡ b → ((f.sid ≡ at) × ((asked at next f).last_sent ≡ Some next)) ⊎ ((asked at next f).last_sent ≡ f.last_sent)
    by true e = inl (eqb-true _ _ e, ap (λ b. (cond b (record f { last_sent = Some next }) f).last_sent) e)
    by false e = inr (ap (λ b. (cond b (record f { last_sent = Some next }) f).last_sent) e)

flow_first : (at next : ℕ) (f : FlowRow) → (asked at next f).first ≡ f.first
flow_first at next f = elim (is_flow at f) as (λ b. (cond b (record f { last_sent = Some next }) f).first ≡ f.first) [ true ↦ refl | false ↦ refl ]

asked_request : (t : Table) (at n next sid sent : ℕ) → table_request_refusal t at n next ≡ None → WasAsked t sid sent → WasAsked (request_in_table t at n next) sid sent
asked_request t at n next sid sent ok w =
    let a = is_asked t at n next ok in
    record {
      well = request_is_well t at n next ok w.well;
      lease = w.lease;
      found = w.found;
      before = w.before;
      later = λ f h same.
          let m = has_map (asked at next) t.flows f h in
          let old : m.0.sid ≡ sid = sym (asked_same at next m.0) ∙ ap (λ (g : FlowRow). g.sid) m.2 ∙ same in
          subst (λ (g : FlowRow). IsSentBy g sent) m.2 (elim (flow_asked at next m.0) [
            | inl own ↦
                let before : sent < next = newer a.flow sent next (w.later a.flow a.there (a.sid_is ∙ sym own.0 ∙ old)) a.after a.new in
                sent_after (asked at next m.0) sent next own.1 (omega arith)
            | inr kept ↦ sent_same m.0 (asked at next m.0) sent (flow_first at next m.0) kept (w.later m.0 m.1 old)
          ]);
    }

asked_cut : (t : Table) (asks : CutSettings) (sid sent : ℕ) → fill_refusal t.row asks ≡ None → WasAsked t sid sent → WasAsked (table_after t (fill t asks)) sid sent
asked_cut t asks sid sent ok w = record {
  well = cut_is_well t asks ok w.well;
  lease = w.lease;
  found = w.found;
  before = w.before;
  later = λ f h same.
      let span = span_of t.row asks.len asks.not_before in
      let m = flow_from t span asks f (is_cut t asks ok).end h in
      sent_same m.0 f sent m.2.first m.2.last_sent (w.later m.0 m.1 (sym m.2.sid ∙ same));
}

asked_change : (t : Table) (s : ChannelSettings) (sid sent : ℕ) → table_change_refusal t s ≡ None → WasAsked t sid sent → WasAsked (change_in_table t s) sid sent
asked_change t s sid sent ok w = record { well = change_is_well t s ok w.well; lease = w.lease; found = w.found; before = w.before; later = w.later }

pub asked_kept : (sid sent : ℕ) → Kept (λ t. WasAsked t sid sent)
asked_kept sid sent = record {
  change = λ t s ok w. asked_change t s sid sent ok w;
  flow = λ t modem tag last kind none ok w. asked_flow t modem tag last kind sid sent none ok w;
  drop = λ t at w. asked_drop t at sid sent w;
  request = λ t at n next ok w. asked_request t at n next sid sent ok w;
  cut = λ t asks ok w. asked_cut t asks sid sent ok w;
}

-- the request itself was accepted
pub asked_now : (t : Table) (sid n sent : ℕ) → table_request_refusal t sid n sent ≡ None → IsWell t → WasAsked (request_in_table t sid n sent) sid sent
asked_now t sid n sent ok w =
    let a = is_asked t sid n sent ok in
    record {
      well = request_is_well t sid n sent ok w;
      lease = lease_in a.flow;
      found = ap (λ m. find (is_of_sid m) t.leases) (sym a.sid_is) ∙ (w.given a.flow a.there).lease;
      before = a.before;
      later = λ f h same.
          let m = has_map (asked sid sent) t.flows f h in
          let own : m.0.sid ≡ sid = sym (asked_same sid sent m.0) ∙ ap (λ (g : FlowRow). g.sid) m.2 ∙ same in
          subst (λ (g : FlowRow). IsSentBy g sent) m.2
          (sent_after (asked sid sent m.0) sent sent (ap (λ b. (cond b (record m.0 { last_sent = Some sent }) m.0).last_sent) (ap (λ k. eqb k sid) own ∙ eqb_same sid)) (omega arith));
    }

-- what waits after a MAP waited before it, and isn't granted by it
pub waits_before : (t : Table) (asks : CutSettings) (w : Waiting) → Has (fill t asks).waiting w → Has t.waiting w × (not (list_any (is_grant_of w) (fill t asks).placements) ≡ true)
waits_before t asks w h =
    let ps : List Placement = (fill t asks).placements in
    has_filter (λ v. not (list_any (is_grant_of v) ps)) t.waiting w (has_filter (λ v. not (has_ended t (end_of (span_of t.row asks.len asks.not_before)) v)) (still_waiting ps t.waiting) w h).0

-- ---- a request that was accepted, and waits no longer

pub record IsGone (t : Table) (sid sent : ℕ) : Type 0 where
  pub past : WasAsked t sid sent
  pub none : (w : Waiting) → Has t.waiting w → w.sid ≡ sid → w.sent ≢ sent

gone_request : (t : Table) (at n next sid sent : ℕ) → table_request_refusal t at n next ≡ None → IsGone t sid sent → IsGone (request_in_table t at n next) sid sent
gone_request t at n next sid sent ok g =
    let a = is_asked t at n next ok in
    record {
      past = asked_request t at n next sid sent ok g.past;
      none = λ w h same. elim (has_pushed t.waiting (record { sid = at; n = n; sent = next }) w h) [
        | inl old ↦ g.none w old same
        | inr new ↦ λ is.
            let own : at ≡ sid = ap (λ (v : Waiting). v.sid) new ∙ same in
            let then : next ≡ sent = ap (λ (v : Waiting). v.sent) new ∙ is in
            let before : sent < next = newer a.flow sent next (g.past.later a.flow a.there (a.sid_is ∙ own)) a.after a.new in
            absurd (omega arith)
      ];
    }

pub gone_kept : (sid sent : ℕ) → Kept (λ t. IsGone t sid sent)
gone_kept sid sent = record {
  change = λ t s ok g. record { past = asked_change t s sid sent ok g.past; none = g.none };
  flow = λ t modem tag last kind none ok g. record { past = asked_flow t modem tag last kind sid sent none ok g.past; none = g.none };
  drop = λ t at g. record { past = asked_drop t at sid sent g.past; none = λ w h. g.none w (has_filter (λ v. not (is_of at v)) t.waiting w h).0 };
  request = λ t at n next ok g. gone_request t at n next sid sent ok g;
  cut = λ t asks ok g. record {
    past = asked_cut t asks sid sent ok g.past;
    none = λ w h. g.none w (waits_before t asks w h).0;
  };
}
