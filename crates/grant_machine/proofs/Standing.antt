-- What is true of the rows that commands reach, beside what is true of each table: each channel has one table, and a best-effort flow stays at due time number 0.
use Rattle.std.proofs.Common.{◌≡◌, ℕ, Bool, true, false, cond, not, List, [], ◌∷◌, map, filter, Option, Some, None}
use Rattle.std.proofs.Common.{refl, sym, ap, subst, ◌∙◌, inl, inr, is_some, eqb}
use Rattle.std.proofs.lemmas.Bool.{eqb-true}
use Rattle.std.specs.List.{AllByRecursion}
use Rattle.std.specs.Prelude.{unwrap_or}
use Rattle.minislot_time.specs.Extent.{Extent}
use Rattle.flow_state.specs.declared.channel.Channel.{Channel}
use Rattle.flow_state.specs.declared.flow.FlowKind.{FlowKind}
use Rattle.flow_state.specs.declared.flow.FlowKind.TheVariants.{BestEffort, Ugs, Poll, Station, Initial}
use Rattle.flow_state.specs.declared.refusal.Refusal.TheVariants.{BadValue, ChannelThere}
use Rattle.flow_state.specs.Limits.{is_good_channel, is_timed}
use Rattle.flow_state.specs.Rows.{Rows, Table, FlowRow, table_of, change_table, is_flow, is_ended, free_sid}
use Rattle.flow_state.specs.Rows.{insert_flow}
use Rattle.flow_state.specs.Changes.{new_table, new_flow, new_lease}
use Rattle.grant_machine.specs.declared.command.Command.{Command}
use Rattle.grant_machine.specs.declared.command.Command.TheVariants as commands
use Rattle.grant_machine_parts.specs.declared.placing.Placement.{Placement}
use Rattle.grant_machine_parts.specs.declared.due_times.Periodic.{Periodic}
use Rattle.grant_machine_parts.specs.Cutting.{grants_of_flow, polls_of_flow, maintenance_of_flow, fill_grants}
use Rattle.grant_machine_parts.specs.Cutting.{fill_polls, run_flow, pass, span_of, end_of, flows_served}
use Rattle.grant_machine.specs.Steps.{step, refusal_of}
use Rattle.grant_machine.specs.Runs.{step_grants, IsReached}
pub use Rattle.flow_state.specs.Firm.{idle, IsIdle, Apart}
use Rattle.flow_state.specs.Firm.{IsFirm, AreFirm}
use Rattle.flow_state.proofs.Callers.{apart_added, found_before, same_id, KeepsId, eqb_same, Has}
use Rattle.flow_state.proofs.Callers.{has_filter, has_inserted, has_all, all_has}
use Rattle.flow_state.proofs.Callers.{passes_on}
use Rattle.grant_machine_parts.proofs.Callers.{Asks, grants_of, maintenance_of, polls_of, timed}
use Rattle.grant_machine.proofs.Turns.{IsPushed, shape}
use Rattle.grant_machine.proofs.Reached.{Kept, At, at_step, at_has, rows_keep, reached_is_well, reached_fits}

-- ---- best-effort flows

abbrev pub AreIdle : Table → Type 0
AreIdle t = AllByRecursion IsIdle t.flows

idle_start : (kind : FlowKind) → idle kind 0
idle_start (BestEffort priority) = refl
idle_start (Ugs size interval jitter base) = tt
idle_start (Poll interval jitter base) = tt
idle_start (Station size interval jitter base) = tt
idle_start (Initial size interval jitter base) = tt

idle_insert : (f : FlowRow) (fs : List FlowRow) → IsIdle f → AllByRecursion IsIdle fs → AllByRecursion IsIdle (insert_flow f fs)
idle_insert f fs new all = all_has IsIdle (insert_flow f fs) (λ g h. elim (has_inserted f fs g h) [ inl old ↦ has_all IsIdle fs g all old | inr is ↦ subst IsIdle is new ])

idle_filter : (q : FlowRow → Bool) (fs : List FlowRow) → AllByRecursion IsIdle fs → AllByRecursion IsIdle (filter q fs)
idle_filter q fs all = all_has IsIdle (filter q fs) (λ f h. has_all IsIdle fs f all (has_filter q fs f h).0)

idle_request : (sid sent : ℕ) (fs : List FlowRow) → AllByRecursion IsIdle fs → AllByRecursion IsIdle (map (λ f. cond (is_flow sid f) (record f { last_sent = Some sent }) f) fs)
idle_request sid sent [] all = tt
idle_request sid sent (f ∷ fs) all = (elim (is_flow sid f) as (λ b. IsIdle (cond b (record f { last_sent = Some sent }) f)) [ true ↦ all.0 | false ↦ all.0 ], idle_request sid sent fs all.1)

-- nothing comes by itself for a best-effort flow
pass_idle : (c : Channel) (span : Extent) (what : FlowRow → Option Periodic) (fs : List FlowRow) (ps : List Placement) → Asks c what → AllByRecursion IsIdle fs → AllByRecursion IsIdle (pass span what fs ps).flows
pass_idle c span what [] ps asks all = tt
pass_idle c span what (f ∷ fs) ps asks all = (by (what f) refl, pass_idle c span what fs (run_flow span (what f) f.index ps).placements asks all.1)
  where
    other : (kind : FlowKind) (i : ℕ) → is_timed kind ≡ true → idle kind i
    other (BestEffort priority) i e = absurd cc
    other (Ugs size interval jitter base) i e = tt
    other (Poll interval jitter base) i e = tt
    other (Station size interval jitter base) i e = tt
    other (Initial size interval jitter base) i e = tt

    by : (o : Option Periodic) → what f ≡ o → idle f.kind (run_flow span o f.index ps).index
    by None h = all.0
    by (Some p) h = other f.kind (run_flow span (Some p) f.index ps).index (timed (asks f p h))

-- a MAP leaves it so, of all flows and of those that go on
pub served_idle : (t : Table) (span : Extent) → AreIdle t → AllByRecursion IsIdle (flows_served t span)
served_idle t span all =
    let c : Channel = t.row.channel in
    let first = fill_grants t span in
    let second = fill_polls t span first in
    let granted = pass_idle c span (grants_of_flow c) t.flows [] (grants_of c) all in
    let polled = pass_idle c span (polls_of_flow c) first.flows first.placements (polls_of c) granted in
    pass_idle c span (maintenance_of_flow c) second.flows second.placements (maintenance_of c) polled

idle_kept : Kept AreIdle
idle_kept = record {
  change = λ t s ok all. all;
  flow = λ t modem tag last kind none ok all. idle_insert (new_flow (new_lease t modem tag last (unwrap_or (free_sid t) 0)) kind) t.flows (idle_start kind) all;
  drop = λ t sid all. idle_filter (λ f. not (is_flow sid f)) t.flows all;
  request = λ t sid n sent ok all. idle_request sid sent t.flows all;
  cut = λ t asks ok all.
      let span = span_of t.row asks.len asks.not_before in
      idle_filter (λ f. not (is_ended (end_of span) f)) (flows_served t span) (served_idle t span all);
}

abbrev pub AllIdle : Rows → Type 0
AllIdle rows = (ch : ℕ) → At AreIdle rows ch

pub reached_idle : (rows : Rows) → IsReached rows → AllIdle rows
reached_idle rows r =
    subst AllIdle r.4 (rows_keep AllIdle (λ before c all ch. at_step AreIdle idle_kept before c ch (λ n is ok. tt) (all ch)) r.0 r.2
    (λ ch t e. (at_has IsFirm r.0 r.1.0 ch t e).idle_flows))

-- ---- one table a channel

none_changed : (rows : Rows) (at : ℕ) (change : Table → Table) (ch : ℕ) → KeepsId change → table_of rows ch ≡ None → table_of (change_table rows at change) ch ≡ None
none_changed rows at change ch ids e = by (table_of (change_table rows at change) ch) refl
  where
    by : (o : Option Table) → table_of (change_table rows at change) ch ≡ o → o ≡ None
    by None found = refl
    by (Some u) found = absurd (let before = found_before rows ch at change u ids found in let there : table_of rows ch ≡ Some before.0 = before.1 in cc)

apart_changed : (rows : Rows) (at : ℕ) (change : Table → Table) → KeepsId change → Apart rows → Apart (change_table rows at change)
apart_changed [] at change ids a = tt
apart_changed (r ∷ rows) at change ids a =
    (subst (λ i. table_of (change_table rows at change) i ≡ None) (sym (same_id at change r ids)) (none_changed rows at change r.row.channel.id ids a.0), apart_changed rows at change ids a.1)

apart_step : (rows : Rows) (c : Command) → Apart rows → Apart (step rows c).rows
apart_step rows c a = elim (shape rows c) [
  | inl same ↦ subst Apart same.is a
  | inr (inl new) ↦ subst Apart new.is (apart_added rows (new_table new.channel) (absent (table_of rows new.channel.id) (channel_new new)) a)
  | inr (inr k) ↦ subst Apart k.is (apart_changed rows k.at k.change k.ids a)
]
  where
    channel_new : (new : IsPushed rows c (step rows c).rows (step_grants rows c)) → is_some (table_of rows new.channel.id) ≡ false
    channel_new new =
        let there : Bool = is_some (table_of rows new.channel.id) in
        let ok : refusal_of rows (commands.Channel new.channel) ≡ None = subst (λ (d : Command). refusal_of rows d ≡ None) new.asked new.ok in
        (passes_on there ChannelThere None (passes_on (not (is_good_channel new.channel)) BadValue (cond there (Some ChannelThere) None) ok).1).0

    absent : (o : Option Table) → is_some o ≡ false → o ≡ None
    absent (Some t) e = absurd cc
    absent None e = refl

pub reached_apart : (rows : Rows) → IsReached rows → Apart rows
reached_apart rows r = subst Apart r.4 (rows_keep Apart apart_step r.0 r.2 r.1.1)

-- ---- rows that commands lead to are rows that commands could leave

-- each table is the one of its channel
table_found : (rows : Rows) (t : Table) → Apart rows → Has rows t → table_of rows t.row.channel.id ≡ Some t
table_found [] t a h = absurd h
table_found (r ∷ rows) t a (inl is) =
    ap (λ b. cond b (Some r) (table_of rows t.row.channel.id)) (ap (λ (x : Table). eqb x.row.channel.id t.row.channel.id) is ∙ eqb_same t.row.channel.id) ∙ ap (λ (x : Table). Some x) is
table_found (r ∷ rows) t a (inr h) = by (eqb r.row.channel.id t.row.channel.id) refl (table_found rows t a.1 h)
  where
    by : (b : Bool) → eqb r.row.channel.id t.row.channel.id ≡ b → table_of rows t.row.channel.id ≡ Some t → table_of (r ∷ rows) t.row.channel.id ≡ Some t
    by true e found = absurd (let none : table_of rows t.row.channel.id ≡ None = ap (table_of rows) (sym (eqb-true _ _ e)) ∙ a.0 in cc)
    by false e found = ap (λ b. cond b (Some r) (table_of rows t.row.channel.id)) e ∙ found

pub reached_firm : (rows : Rows) → IsReached rows → AreFirm rows
reached_firm rows r =
    let apart = reached_apart rows r in
    let well = reached_is_well rows r in
    let fits = reached_fits rows r in
    let idle_ones = reached_idle rows r in (
      all_has IsFirm rows (λ t h.
          let found = table_found rows t apart h in
          record { well = well t.row.channel.id t found; fits = fits t.row.channel.id t found; idle_flows = idle_ones t.row.channel.id t found }),
      apart,
    )
