-- Tables that stand behind others.
use Rattle.std.proofs.Common.{◌≡◌, ℕ, Bool, true, false, cond, List, [], ◌∷◌, ◌++◌, map, Some, None, refl, sym, ap}
use Rattle.std.proofs.Common.{subst, ◌∙◌, inl, inr, nat_eq}
use Rattle.std.specs.Prelude.{OnOk, Result, Ok, Err}
use Rattle.std.specs.List.{AllByRecursion}
use Rattle.std.specs.Map.{lookup}
use Rattle.std.proofs.lemmas.Bool.{and_parts}
use Rattle.std.proofs.lemmas.List.{map-append}
use Rattle.flow_state.specs.declared.channel.ChannelRow.{ChannelRow}
use Rattle.flow_state.specs.declared.flow.Flow.{Flow}
use Rattle.flow_state.specs.declared.flow.FlowKind.{FlowKind}
use Rattle.flow_state.specs.declared.flow.FlowKind.TheVariants.{BestEffort, Ugs, Poll, Station, Initial}
use Rattle.flow_state.specs.declared.flow.Waiting.{Waiting}
use Rattle.flow_state.specs.declared.whole.WholeTable.{WholeTable}
use Rattle.flow_state.specs.Entries.{Entries, AreIds, rows_of}
use Rattle.flow_state.specs.Firm.{Has, FitsChannel, idle, IsIdle, IsFirm, Apart, AreFirm, table_in, IsAdoptable}
use Rattle.flow_state.specs.Limits.{is_good_kind, is_size, is_schedule, due_time, due_index}
use Rattle.flow_state.specs.Rows.{Rows, Table, FlowRow, Lease, lent_flow, is_table, table_of}
use Rattle.flow_state.specs.View.{flow_view}
use Rattle.flow_state.specs.Tests.{is_firm_whole}
use Rattle.flow_state.proofs.DueTimes.{number_is, some_interval}
use Rattle.flow_state.proofs.Firmness.{firm_is}
use Rattle.flow_state.proofs.Keyed.{eqb_sym}
use Rattle.flow_state.proofs.Tables.{table_found}

none_added : (rows : Rows) (n : Table) (ch : ℕ) → table_of rows ch ≡ None → is_table ch n ≡ false → table_of (rows ++ n ∷ []) ch ≡ None
none_added [] n ch e off = ap (λ b. cond b (Some n) None) off
none_added (r ∷ rows) n ch e off = elim (is_table ch r) as (λ b. cond b (Some r) (table_of rows ch) ≡ None → cond b (Some r) (table_of (rows ++ n ∷ []) ch) ≡ None) [ true ↦ λ f. absurd cc | false ↦ λ f. none_added rows n ch f off ] e

pub apart_added : (rows : Rows) (n : Table) → table_of rows n.row.channel.id ≡ None → Apart rows → Apart (rows ++ n ∷ [])
apart_added [] n e a = (refl, tt)
apart_added (r ∷ rows) n e a =
    let both = later (is_table n.row.channel.id r) refl e in
    (none_added rows n r.row.channel.id a.0 (eqb_sym n.row.channel.id r.row.channel.id ∙ both.0), apart_added rows n both.1 a.1)
  where
    later : (b : Bool) → is_table n.row.channel.id r ≡ b → cond b (Some r) (table_of rows n.row.channel.id) ≡ None → (is_table n.row.channel.id r ≡ false) × (table_of rows n.row.channel.id ≡ None)
    later true h f = absurd cc
    later false h f = (h, f)

all_added : (rows : Rows) (n : Table) → IsFirm n → AllByRecursion IsFirm rows → AllByRecursion IsFirm (rows ++ n ∷ [])
all_added [] n new all = (new, tt)
all_added (r ∷ rows) n new all = (all.0, all_added rows n new all.1)

-- tables that commands could leave stay so behind one more
pub firm_added : (rows : Rows) (n : Table) → IsFirm n → table_of rows n.row.channel.id ≡ None → AreFirm rows → AreFirm (rows ++ n ∷ [])
firm_added rows n new none firm = (all_added rows n new firm.0, apart_added rows n none firm.1)

-- a whole table that passes its tests, of a channel that has none
pub adoptable : (es : Entries) (w : WholeTable) → AreIds es → FitsChannel w.row.channel → is_firm_whole w ≡ true → lookup (nat_eq w.row.channel.id) es ≡ None → IsAdoptable (rows_of es) w
adoptable es w ids fits passes none = let firm = firm_is w fits passes in record { firm = firm.0; dues = firm.1; new = table_found es w.row.channel.id ids ∙ none }

-- after a success
pub firm_after : {A B : Type 0} (r : Result A B) (es fs : Entries) (now : Rows) (w : WholeTable) → rows_of es ≡ now
    → OnOk r (IsAdoptable (rows_of es) w × (fs ≡ es ++ (w.row.channel.id, table_in w) ∷ [])) → OnOk r (AreFirm now → AreFirm (rows_of fs))
firm_after (Ok x) es fs now w view ok = λ firm.
    subst AreFirm (sym (ap rows_of ok.1 ∙ map-append (λ (e : ℕ × Table). e.1) es ((w.row.channel.id, table_in w) ∷ [])))
    (firm_added (rows_of es) (table_in w) ok.0.firm ok.0.new (subst AreFirm (sym view) firm))
firm_after (Err e) es fs now w view ok = ok

-- ---- the whole table of a table

index_back : (kind : FlowKind) (i : ℕ) → is_good_kind kind ≡ true → idle kind i → due_index kind (due_time kind i) ≡ i
index_back (BestEffort priority) i good none = sym none
index_back (Ugs size interval jitter base) i good none = number_is base interval i (some_interval interval jitter base (and_parts (is_size size) (is_schedule interval jitter base) good).1)
index_back (Poll interval jitter base) i good none = number_is base interval i (some_interval interval jitter base good)
index_back (Station size interval jitter base) i good none = number_is base interval i (some_interval interval jitter base (and_parts (is_size size) (is_schedule interval jitter base) good).1)
index_back (Initial size interval jitter base) i good none = number_is base interval i (some_interval interval jitter base (and_parts (is_size size) (is_schedule interval jitter base) good).1)

-- flows that are lent mean the rows that they are lent of
pub views_back : (fs : List FlowRow) → ((f : FlowRow) → Has fs f → is_good_kind f.kind ≡ true) → AllByRecursion IsIdle fs → map flow_view (map lent_flow fs) ≡ fs
views_back [] good all = refl
views_back (f ∷ fs) good all =
    ap (λ n. record f { index = n } ∷ map flow_view (map lent_flow fs)) (index_back f.kind f.index (good f (inl refl)) all.0)
    ∙ ap (λ (gs : List FlowRow). f ∷ gs) (views_back fs (λ g h. good g (inr h)) all.1)

-- a whole table that has what a table lends is that table, and may be adopted where its channel isn't set
pub whole_is : (t : Table) (w : WholeTable) → IsFirm t → w.row ≡ t.row → w.leases.items ≡ t.leases → w.flows.items ≡ map lent_flow t.flows → w.waiting.items ≡ t.waiting → table_in w ≡ t
whole_is t w firm row leases flows waiting =
    ap (λ (r : ChannelRow). record { row = r; leases = w.leases.items; flows = map flow_view w.flows.items; waiting = w.waiting.items }) row
    ∙ ap (λ (ls : List Lease). record { row = t.row; leases = ls; flows = map flow_view w.flows.items; waiting = w.waiting.items }) leases
    ∙ ap (λ (fs : List FlowRow). record { row = t.row; leases = t.leases; flows = fs; waiting = w.waiting.items }) (ap (λ (fs : List Flow). map flow_view fs) flows ∙ views_back t.flows (λ f h. (firm.well.flows f h).kind) firm.idle_flows)
    ∙ ap (λ (ws : List Waiting). record { row = t.row; leases = t.leases; flows = t.flows; waiting = ws }) waiting

pub whole_adoptable : (rows : Rows) (t : Table) (w : WholeTable) → IsFirm t → table_of rows t.row.channel.id ≡ None
    → w.row ≡ t.row → w.leases.items ≡ t.leases → w.flows.items ≡ map lent_flow t.flows → w.waiting.items ≡ t.waiting → IsAdoptable rows w
whole_adoptable rows t w firm none row leases flows waiting =
    let is = whole_is t w firm row leases flows waiting in
    record {
      firm = subst IsFirm (sym is) firm;
      dues = ap (λ (u : Table). map lent_flow u.flows) is ∙ sym flows;
      new = ap (λ (r : ChannelRow). table_of rows r.channel.id) row ∙ none;
    }
