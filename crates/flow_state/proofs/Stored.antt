-- Stored flows and the rows that they mean.
use Rattle.std.proofs.Common.{◌≡◌, ℕ, length, suc, zero, slice_get, ◌<◌, ◌≤◌, Bool, true, false, cond, not, leb, ltb}
use Rattle.std.proofs.Common.{List, [], ◌∷◌, ◌++◌, map, filter, Option, Some, None, refl, sym, ap, subst, ◌∙◌, nat_eq}
use Rattle.std.proofs.Common.{eqb, arith, inl, inr}
use Rattle.std.specs.Prelude.{IfSome, IfNone}
use Rattle.std.specs.List.{AllByRecursion, IsDistinct, find}
use Rattle.std.specs.Option.{option_map, option_map_or}
use Rattle.std.specs.Map.{set_value, lookup, remove_entry, keys_of}
use Rattle.std.proofs.lemmas.Bool.{eqb-true}
use Rattle.std.proofs.lemmas.List.{map-append}
use Rattle.flow_state.specs.declared.flow.Flow.{Flow}
use Rattle.flow_state.specs.declared.flow.Waiting.{Waiting}
use Rattle.flow_state.specs.declared.table.ChannelTable.TheInside.{Inside}
use Rattle.flow_state.specs.declared.flow.FlowKind.{FlowKind}
use Rattle.flow_state.specs.Limits.{is_good_kind, due_time}
use Rattle.flow_state.specs.Rows.{Table, FlowRow, Lease, is_flow, is_ended, insert_flow, lent_flow}
use Rattle.flow_state.specs.Changes.{new_flow}
use Rattle.flow_state.specs.Sound.{Rise, IsSound}
use Rattle.flow_state.specs.StoredTable.{IsStoredFlow, IsStored, EndFrom, AreNoted, is_ended_in}
use Rattle.flow_state.specs.View.{flow_view, table_view}
use Rattle.flow_state.proofs.Keyed.{AreKeyed, All-set_value, seen_found, seen_written, seen_absent, seen_removed}
use Rattle.flow_state.proofs.Soundness.{sids, AreGood}
use Rattle.flow_state.proofs.DueTimes.{due_named, first_index}
use Rattle.flow_state.proofs.Members.{Has, all_has, has_all, has_between}

abbrev pub Flows : Type 0
Flows = List (ℕ × Flow)

abbrev pub AreStored : Flows → Type 0
AreStored es = AllByRecursion IsStoredFlow es

abbrev pub rows : Flows → List FlowRow
rows es = map (λ e. flow_view e.1) es

-- a stored table by the table that it means
pub stored_as : (b : Inside) (t : Table) → AreStored b.flows.entries → length b.leases ≤ b.flows.sids → AreNoted b.dues b.flows.entries → table_view b ≡ t → IsSound t → EndFrom b.first_end b.flows.entries → IsStored b
stored_as b t flows enough noted is sound ends = record { flows = flows; enough = enough; sound = subst IsSound (sym is) sound; ends = ends; noted = noted }

pub with_parts : (t : Table) (fs gs : List FlowRow) (vs ws : List Waiting) → fs ≡ gs → vs ≡ ws → record t { flows = fs; waiting = vs } ≡ record t { flows = gs; waiting = ws }
with_parts t fs gs vs ws f w = cc

pub same_table : (t : Table) (given other : List Lease) (fs gs : List FlowRow) → given ≡ other → fs ≡ gs → record t { leases = given; flows = fs } ≡ record t { leases = other; flows = gs }
same_table t given other fs gs a f = cc

keyed : (es : Flows) → AreStored es → AreKeyed flow_view (λ f. f.sid) es
keyed [] all = tt
keyed (e ∷ es) all = (all.0.key, keyed es all.1)

pub flow_found : (es : Flows) (sid : ℕ) → AreStored es → find (is_flow sid) (rows es) ≡ option_map flow_view (lookup (nat_eq sid) es)
flow_found es sid all = seen_found flow_view (λ f. f.sid) es sid (keyed es all)

pub flow_removed : (es : Flows) (sid : ℕ) → AreStored es → IsDistinct nat_eq (keys_of es) → rows (remove_entry (nat_eq sid) es) ≡ filter (λ f. not (is_flow sid f)) (rows es)
flow_removed es sid all apart = seen_removed flow_view (λ f. f.sid) es sid (keyed es all) apart

-- what holds of the entries with a flow written, where it is there, and of those without it
pub after_write : (P : Flows → Type 0) (es fs : Flows) (sid : ℕ) (write : Flow → Flow) → ((f : Flow) → lookup (nat_eq sid) es ≡ Some f → P (set_value (nat_eq sid) es (write f))) → (lookup (nat_eq sid) es ≡ None → P es)
    → IfSome (lookup (nat_eq sid) es) (λ f. fs ≡ set_value (nat_eq sid) es (write f)) → IfNone (lookup (nat_eq sid) es) (fs ≡ es) → P fs
after_write P es fs sid write there absent some none = by (lookup (nat_eq sid) es) refl some none
  where
    by : (o : Option Flow) → lookup (nat_eq sid) es ≡ o → IfSome o (λ f. fs ≡ set_value (nat_eq sid) es (write f)) → IfNone o (fs ≡ es) → P fs
    by (Some f) e s n = subst P (sym s) (there f e)
    by None e s n = subst P (sym n) (absent e)

-- the rows after a flow is written, where it is there
pub flow_written : (es fs : Flows) (sid : ℕ) (write : Flow → Flow) (change : FlowRow → FlowRow) → AreStored es → IsDistinct nat_eq (keys_of es) → ((f : Flow) → flow_view (write f) ≡ change (flow_view f))
    → IfSome (lookup (nat_eq sid) es) (λ f. fs ≡ set_value (nat_eq sid) es (write f)) → IfNone (lookup (nat_eq sid) es) (fs ≡ es) → rows fs ≡ map (λ f. cond (is_flow sid f) (change f) f) (rows es)
flow_written es fs sid write change all apart same some none =
    after_write (λ (gs : Flows). rows gs ≡ map (λ f. cond (is_flow sid f) (change f) f) (rows es)) es fs sid write
    (λ f e. seen_written flow_view (λ g. g.sid) es sid f (write f) change (keyed es all) apart e (same f)) (λ e. sym (seen_absent flow_view (λ g. g.sid) es sid change (keyed es all) e)) some none

pub stored_written : (es fs : Flows) (sid : ℕ) (write : Flow → Flow) → AreStored es → ((f : Flow) → lookup (nat_eq sid) es ≡ Some f → (k : ℕ) → IsStoredFlow (k, f) → IsStoredFlow (k, write f))
    → IfSome (lookup (nat_eq sid) es) (λ f. fs ≡ set_value (nat_eq sid) es (write f)) → IfNone (lookup (nat_eq sid) es) (fs ≡ es) → AreStored fs
stored_written es fs sid write all keeps some none = after_write AreStored es fs sid write (λ f e. All-set_value IsStoredFlow es sid f (write f) all e (keeps f e)) (λ e. all) some none

-- a flow that is found stands under its SID
pub sid_found : (es : Flows) (sid : ℕ) (f : Flow) → AreStored es → lookup (nat_eq sid) es ≡ Some f → f.lease.sid ≡ sid
sid_found [] sid f all h = absurd cc
sid_found (e ∷ es) sid f all h =
    elim (nat_eq sid e.0) as (λ b. nat_eq sid e.0 ≡ b → cond b (Some e.1) (lookup (nat_eq sid) es) ≡ Some f → f.lease.sid ≡ sid) [
      | true ↦ λ is g. let same : e.1 ≡ f = cc in ap (λ (x : Flow). x.lease.sid) (sym same) ∙ all.0.key ∙ sym (eqb-true _ _ is)
      | false ↦ λ is g. sid_found es sid f all.1 g
    ] refl h

-- and has a kind within the limits
pub good_found : (es : Flows) (sid : ℕ) (f : Flow) → AreGood (rows es) → lookup (nat_eq sid) es ≡ Some f → is_good_kind f.kind ≡ true
good_found [] sid f all h = absurd cc
good_found (e ∷ es) sid f all h =
    elim (nat_eq sid e.0) as (λ b. cond b (Some e.1) (lookup (nat_eq sid) es) ≡ Some f → is_good_kind f.kind ≡ true) [
      | true ↦ λ g. let same : e.1 ≡ f = cc in ap (λ (x : Flow). is_good_kind x.kind) (sym same) ∙ all.0
      | false ↦ λ g. good_found es sid f all.1 g
    ] h

-- a flow that is lent is the stored one
pub lent_found : (es : Flows) (sid : ℕ) → AreStored es → option_map lent_flow (option_map flow_view (lookup (nat_eq sid) es)) ≡ lookup (nat_eq sid) es
lent_found [] sid all = refl
lent_found (e ∷ es) sid all =
    elim (nat_eq sid e.0) as (λ b. option_map lent_flow (option_map flow_view (cond b (Some e.1) (lookup (nat_eq sid) es))) ≡ cond b (Some e.1) (lookup (nat_eq sid) es)) [
      | true ↦ ap (λ d. Some (record e.1 { due = d })) (sym all.0.due)
      | false ↦ lent_found es sid all.1
    ]

-- and so is a flow by its number
pub lent_one : (es : Flows) (k : ℕ) → AreStored es → option_map (λ e. e.1) (slice_get es k) ≡ option_map lent_flow (option_map (λ e. flow_view e.1) (slice_get es k))
lent_one [] k all = refl
lent_one (e ∷ es) zero all = ap (λ d. Some (record e.1 { due = d })) all.0.due
lent_one (e ∷ es) (suc k) all = lent_one es k all.1

-- no flow stands under a SID that no row has
pub none_found : (es : Flows) (sid : ℕ) → AreStored es → ((f : FlowRow) → Has (rows es) f → eqb sid f.sid ≡ false) → lookup (nat_eq sid) es ≡ None
none_found [] sid all apart = refl
none_found (e ∷ es) sid all apart =
    ap (λ b. cond b (Some e.1) (lookup (nat_eq sid) es)) (ap (eqb sid) (sym all.0.key) ∙ apart (flow_view e.1) (inl refl)) ∙ none_found es sid all.1 (λ f h. apart f (inr h))

-- the rows of the entries that pass a test of their rows
pub rows_filter : (p : ℕ × Flow → Bool) (q : FlowRow → Bool) (es : Flows) → ((e : ℕ × Flow) → IsStoredFlow e → p e ≡ q (flow_view e.1)) → AreStored es → rows (filter p es) ≡ filter q (rows es)
rows_filter p q [] same all = refl
rows_filter p q (e ∷ es) same all =
    ap (λ b. rows (cond b (e ∷ filter p es) (filter p es))) (same e all.0)
    ∙ elim (q (flow_view e.1)) as (λ b. rows (cond b (e ∷ filter p es) (filter p es)) ≡ cond b (flow_view e.1 ∷ filter q (rows es)) (filter q (rows es))) [
      | true ↦ ap (λ (fs : List FlowRow). flow_view e.1 ∷ fs) (rows_filter p q es same all.1)
      | false ↦ rows_filter p q es same all.1
    ]

-- an entry in its place by SID
abbrev pub put_entry : ℕ → Flow → Flows → Flows
put_entry sid f es = filter (λ e. leb e.0 sid) es ++ (sid, f) ∷ filter (λ e. not (leb e.0 sid)) es

-- what holds of each entry and of a new one holds of each with it
pub all_put : (P : ℕ × Flow → Type 0) (sid : ℕ) (f : Flow) (es : Flows) → AllByRecursion P es → P (sid, f) → AllByRecursion P (put_entry sid f es)
all_put P sid f es all new = all_has P (put_entry sid f es) (λ e h. elim (has_between (λ x. leb x.0 sid) (λ x. not (leb x.0 sid)) (sid, f) es e h) [ inl old ↦ has_all P es e all old.0 | inr is ↦ subst P is new ])

-- a flow as it is added
abbrev pub as_added : Lease → FlowKind → Flow
as_added l kind = record { lease = l; kind = kind; due = due_time kind 0; last_sent = None }

pub stored_added : (l : Lease) (kind : FlowKind) → is_good_kind kind ≡ true → IsStoredFlow (l.sid, as_added l kind)
stored_added l kind good = record { key = refl; due = due_named kind (due_time kind 0) good (0, refl) }

-- the rows after a flow is added
pub rows_added : (es : Flows) (l : Lease) (kind : FlowKind) → AreStored es → is_good_kind kind ≡ true → rows (put_entry l.sid (as_added l kind) es) ≡ insert_flow (new_flow l kind) (rows es)
rows_added es l kind all good =
    map-append (λ (e : ℕ × Flow). flow_view e.1) (filter (λ e. leb e.0 l.sid) es) ((l.sid, as_added l kind) ∷ filter (λ e. not (leb e.0 l.sid)) es)
    ∙ ap (λ i. rows (filter (λ e. leb e.0 l.sid) es) ++ record { sid = l.sid; modem = l.modem; tag = l.tag; first = l.first; last = l.last; kind = kind; index = i; last_sent = None } ∷ rows (filter (λ e. not (leb e.0 l.sid)) es)) (first_index kind good)
    ∙ ap (λ (front : List FlowRow). front ++ new_flow l kind ∷ rows (filter (λ e. not (leb e.0 l.sid)) es)) (rows_filter (λ e. leb e.0 l.sid) (λ f. leb f.sid l.sid) es (λ e s. ap (λ n. leb n l.sid) (sym s.key)) all)
    ∙ ap (λ (back : List FlowRow). filter (λ f. leb f.sid l.sid) (rows es) ++ new_flow l kind ∷ back) (rows_filter (λ e. not (leb e.0 l.sid)) (λ f. not (leb f.sid l.sid)) es (λ e s. ap (λ n. not (leb n l.sid)) (sym s.key)) all)

-- ---- the ends of leases

-- none ends before an earlier time
pub ends_earlier : (es : Flows) (first less : ℕ) → less ≤ first → EndFrom first es → EndFrom less es
ends_earlier [] first less le all = tt
ends_earlier (e ∷ es) first less le all = (omega (arith, all.0), ends_earlier es first less le all.1)

-- after a flow is written that keeps its lease's end
pub ends_written : (es fs : Flows) (sid first : ℕ) (write : Flow → Flow) → EndFrom first es → ((f : Flow) → (write f).lease.last ≡ f.lease.last)
    → IfSome (lookup (nat_eq sid) es) (λ f. fs ≡ set_value (nat_eq sid) es (write f)) → IfNone (lookup (nat_eq sid) es) (fs ≡ es) → EndFrom first fs
ends_written es fs sid first write all same some none =
    after_write (EndFrom first) es fs sid write (λ f e. All-set_value (λ (x : ℕ × Flow). first ≤ x.1.lease.last) es sid f (write f) all e (λ k h. subst (λ m. first ≤ m) (sym (same f)) h)) (λ e. all) some none

-- after a flow is put in its place
pub ends_put : (sid : ℕ) (f : Flow) (es : Flows) (first less : ℕ) → less ≤ first → less ≤ f.lease.last → EndFrom first es → EndFrom less (put_entry sid f es)
ends_put sid f es first less le last all = all_put (λ (e : ℕ × Flow). less ≤ e.1.lease.last) sid f es (ends_earlier es first less le all) last

-- where no lease ends before a time, no flow goes
pub none_ended : (es : Flows) (first end : ℕ) → EndFrom first es → end ≤ first → filter (λ e. leb end e.1.lease.last) es ≡ es
none_ended [] first end all le = refl
none_ended (e ∷ es) first end all le =
    let last : first ≤ e.1.lease.last = all.0 in
    ap (λ b. cond b (e ∷ filter (λ x. leb end x.1.lease.last) es) (filter (λ x. leb end x.1.lease.last) es)) (let on : leb end e.1.lease.last ≡ true = grind (arith, last, le) in on)
    ∙ ap (λ (xs : Flows). e ∷ xs) (none_ended es first end all.1 le)

pub not_ended : (es : Flows) (first end sid : ℕ) → EndFrom first es → end ≤ first → is_ended_in es end sid ≡ false
not_ended [] first end sid all le = refl
not_ended (e ∷ es) first end sid all le =
    let last : first ≤ e.1.lease.last = all.0 in
    elim (nat_eq sid e.0) as (λ b. option_map_or (λ (f : Flow). ltb f.lease.last end) (cond b (Some e.1) (lookup (nat_eq sid) es)) false ≡ false) [
      | true ↦ (let off : ltb e.1.lease.last end ≡ false = grind (arith, last, le) in off)
      | false ↦ not_ended es first end sid all.1 le
    ]

-- what is kept where nothing is turned away
pub filter_kept : {X : Type 0} (p : X → Bool) (xs : List X) → ((x : X) → p x ≡ false) → filter (λ x. not (p x)) xs ≡ xs
filter_kept p [] none = refl
filter_kept {X} p (x ∷ xs) none = ap (λ b. cond (not b) (x ∷ filter (λ y. not (p y)) xs) (filter (λ y. not (p y)) xs)) (none x) ∙ ap (λ (ys : List X). x ∷ ys) (filter_kept p xs none)

-- ---- flows whose leases ended

-- what the entries tell of a SID is what the rows tell of its request
pub ended_is : (es : Flows) (end sid : ℕ) → AreStored es → is_ended_in es end sid ≡ option_map_or (is_ended end) (find (is_flow sid) (rows es)) false
ended_is es end sid all = by (lookup (nat_eq sid) es) ∙ ap (λ (o : Option FlowRow). option_map_or (is_ended end) o false) (sym (flow_found es sid all))
  where
    by : (o : Option Flow) → option_map_or (λ f. ltb f.lease.last end) o false ≡ option_map_or (is_ended end) (option_map flow_view o) false
    by (Some f) = refl
    by None = refl

-- flow number k is good, and its SID lies within the bounds
pub good_at : (es : Flows) (k : ℕ) (e : ℕ × Flow) → AreGood (rows es) → slice_get es k ≡ Some e → is_good_kind e.1.kind ≡ true
good_at [] k e all h = absurd cc
good_at (x ∷ es) zero e all h = let same : x ≡ e = cc in ap (λ (y : ℕ × Flow). is_good_kind y.1.kind) (sym same) ∙ all.0
good_at (x ∷ es) (suc k) e all h = good_at es k e all.1 h

pub sid_at : (es : Flows) (k : ℕ) (e : ℕ × Flow) (low high : ℕ) → Rise low (sids (rows es)) high → slice_get es k ≡ Some e → (low < e.1.lease.sid) × (e.1.lease.sid ≤ high)
sid_at [] k e low high rise h = absurd cc
sid_at (x ∷ es) zero e low high rise h = let same : x ≡ e = cc in subst (λ (y : ℕ × Flow). (low < y.1.lease.sid) × (y.1.lease.sid ≤ high)) same (rise.0, rise.1)
sid_at (x ∷ es) (suc k) e low high rise h = let rest = sid_at es k e x.1.lease.sid high rise.2 h in (omega (arith, rest.0), rest.1)

-- the entries stand under the SIDs of the rows
pub keys_are : (es : Flows) → AreStored es → map (λ e. e.0) es ≡ sids (rows es)
keys_are [] all = refl
keys_are (e ∷ es) all = ap (λ n. n ∷ map (λ (x : ℕ × Flow). x.0) es) (sym all.0.key) ∙ ap (λ (ns : List ℕ). e.1.lease.sid ∷ ns) (keys_are es all.1)
