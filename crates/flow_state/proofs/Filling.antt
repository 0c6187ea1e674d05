-- A table that is filled row by row: leases in order of their SIDs, then flows.
use Rattle.std.proofs.Common.{◌≡◌, ℕ, zero, suc, ◌+◌, ◌<◌, ◌≤◌, true, false, cond, not, leb, List, [], ◌∷◌, ◌++◌, map}
use Rattle.std.proofs.Common.{filter, length, take, Some, None, refl, sym, ap, subst, ◌∙◌, arith, inl, inr, eqb}
use Rattle.std.proofs.Common.{add-one, length-append, nat_eq}
use Rattle.std.specs.List.{AllByRecursion, range_with_len}
use Rattle.std.specs.Map.{lookup}
use Rattle.std.proofs.Math.ListN.{get_or}
use Rattle.std.proofs.lemmas.List.{map-append}
use Rattle.flow_state.specs.declared.flow.Flow.{Flow}
use Rattle.flow_state.specs.Limits.{is_good_kind, last_sid}
use Rattle.flow_state.specs.Rows.{Table, FlowRow, Lease, is_of_sid, lease_in, lent_flow, put_lease}
use Rattle.flow_state.specs.Sound.{Rise, IsLeasedFlow, IsSound}
use Rattle.flow_state.specs.declared.table.ChannelTable.TheInside.{Inside}
use Rattle.flow_state.specs.StoredTable.{IsStored, IsStoredFlow, MayBePut, EndFrom, AreNoted, with_lease, with_flow_row}
use Rattle.flow_state.specs.StoredFlows.{Places, BySid, there, flow_at}
use Rattle.flow_state.specs.View.{flow_view, table_view}
use Rattle.flow_state.specs.Firm.{Has, RisingFrom}
use Rattle.flow_state.proofs.Assignments.{find_kept}
use Rattle.flow_state.proofs.Freed.{AreGiven, runs, runs_has, put_last, given_put}
use Rattle.flow_state.proofs.Members.{has_all, all_has, found_has}
use Rattle.flow_state.proofs.Soundness.{sids, rise_higher}
use Rattle.flow_state.proofs.Stored.{Flows, AreStored, rows, put_entry, none_found, stored_as, same_table}

all_pushed : {X : Type 0} (P Q : X → Type 0) (xs : List X) (x : X) → ((y : X) → P y → Q y) → Q x → AllByRecursion P xs → AllByRecursion Q (xs ++ x ∷ [])
all_pushed P Q [] x keeps new all = (new, tt)
all_pushed P Q (y ∷ xs) x keeps new all = (keeps y all.0, all_pushed P Q xs x keeps new all.1)

-- ---- a lease behind the others

pub sound_leased : (t : Table) (l : Lease) → l.sid ≡ length t.leases + 1 → l.sid ≤ last_sid → IsSound t → IsSound (with_lease t l)
sound_leased t l next most s =
    let last = put_last l t.leases s.given next in
    let more : length (t.leases ++ l ∷ []) ≡ length t.leases + 1 = length-append t.leases (l ∷ []) in
    record {
      given = subst AreGiven last (given_put l t.leases s.given (omega (arith, next)) (omega (arith, next)));
      few = omega (arith, more, next, most);
      rising = rise_higher (sids t.flows) 0 (length t.leases) (length (t.leases ++ l ∷ [])) (omega (arith, more)) s.rising;
      kinds = s.kinds;
      leased = all_has (IsLeasedFlow (with_lease t l)) t.flows (λ f h.
          let g = has_all (IsLeasedFlow t) t.flows f s.leased h in
          record { lease = find_kept (is_of_sid f.sid) t.leases (lease_in f) l g.lease; goes_on = g.goes_on });
      room = s.room;
    }

-- ---- a flow behind the others

rise_pushed : (fs : List FlowRow) (low high : ℕ) (f : FlowRow) → Rise low (sids fs) high → ((g : FlowRow) → Has fs g → g.sid < f.sid) → low < f.sid → f.sid ≤ high → Rise low (sids (fs ++ f ∷ [])) high
rise_pushed [] low high f r below more most = (more, most, tt)
rise_pushed (g ∷ fs) low high f r below more most = (r.0, r.1, rise_pushed fs g.sid high f r.2 (λ x h. below x (inr h)) (below g (inl refl)) most)

-- its SID was given
pub leased_range : (t : Table) (f : FlowRow) → IsSound t → IsLeasedFlow t f → (1 ≤ f.sid) × (f.sid ≤ length t.leases) × (f.sid ≤ last_sid)
leased_range t f s l =
    let range = runs_has 1 t.leases (lease_in f) (runs t.leases s.given) (found_has (is_of_sid f.sid) t.leases (lease_in f) l.lease).0 in
    let few : length t.leases ≤ last_sid = s.few in
    (range.0, omega (arith, range.1), omega (arith, range.1, few))

pub sound_flowed : (t : Table) (f : FlowRow) → is_good_kind f.kind ≡ true → IsLeasedFlow t f → ((g : FlowRow) → Has t.flows g → g.sid < f.sid) → IsSound t → IsSound (with_flow_row t f)
sound_flowed t f good leased below s =
    let range = leased_range t f s leased in
    record {
      given = s.given;
      few = s.few;
      rising = rise_pushed t.flows 0 (length t.leases) f s.rising below (omega (arith, range.0)) range.1;
      kinds = all_pushed (λ (g : FlowRow). is_good_kind g.kind ≡ true) (λ (g : FlowRow). is_good_kind g.kind ≡ true) t.flows f (λ g h. h) good s.kinds;
      leased = all_pushed (IsLeasedFlow t) (IsLeasedFlow (with_flow_row t f)) t.flows f (λ g h. record { lease = h.lease; goes_on = h.goes_on }) (record { lease = leased.lease; goes_on = leased.goes_on }) s.leased;
      room = s.room;
    }

-- entries under lower SIDs stay before it
pub put_behind_all : (es : Flows) (sid : ℕ) (f : Flow) → AreStored es → ((g : FlowRow) → Has (rows es) g → g.sid < sid) → put_entry sid f es ≡ es ++ (sid, f) ∷ []
put_behind_all es sid f all below =
    let parts = low es all below in
    ap (λ (xs : Flows). xs ++ (sid, f) ∷ filter (λ e. not (leb e.0 sid)) es) parts.0 ∙ ap (λ (xs : Flows). es ++ (sid, f) ∷ xs) parts.1
  where
    low : (xs : Flows) → AreStored xs → ((g : FlowRow) → Has (rows xs) g → g.sid < sid) → (filter (λ e. leb e.0 sid) xs ≡ xs) × (filter (λ e. not (leb e.0 sid)) xs ≡ [])
    low [] stored lower = (refl, refl)
    low (e ∷ xs) stored lower =
        let rest = low xs stored.1 (λ g h. lower g (inr h)) in
        let first : e.1.lease.sid < sid = lower (flow_view e.1) (inl refl) in
        let key : e.1.lease.sid ≡ e.0 = stored.0.key in
        let on : leb e.0 sid ≡ true = grind (arith, first, key) in (
          ap (λ b. cond b (e ∷ filter (λ x. leb x.0 sid) xs) (filter (λ x. leb x.0 sid) xs)) on ∙ ap (λ (ys : Flows). e ∷ ys) rest.0,
          ap (λ b. cond (not b) (e ∷ filter (λ x. not (leb x.0 sid)) xs) (filter (λ x. not (leb x.0 sid)) xs)) on ∙ rest.1,
        )

pub rows_pushed : (es : Flows) (sid : ℕ) (f : Flow) → rows (es ++ (sid, f) ∷ []) ≡ rows es ++ flow_view f ∷ []
rows_pushed es sid f = map-append (λ (e : ℕ × Flow). flow_view e.1) es ((sid, f) ∷ [])

-- lower SIDs, by rows
pub all_below : (fs : List FlowRow) (sid : ℕ) → AllByRecursion (λ f. f.sid < sid) fs → (g : FlowRow) → Has fs g → g.sid < sid
all_below fs sid all g h = has_all (λ (f : FlowRow). f.sid < sid) fs g all h

pub apart_below : (fs : List FlowRow) (sid : ℕ) → ((g : FlowRow) → Has fs g → g.sid < sid) → (g : FlowRow) → Has fs g → eqb sid g.sid ≡ false
apart_below fs sid below g h = let lt = below g h in grind (arith, lt)

-- ---- one after another

-- the flows before a place have lower SIDs
rises : (low : ℕ) (fs : List Flow) (k : ℕ) (d : Flow) → RisingFrom low (map flow_view fs) → k < length fs → low ≤ (get_or fs k d).lease.sid
rises low [] k d r lt = absurd (omega (arith, lt))
rises low (f ∷ fs) zero d r lt = r.0
rises low (f ∷ fs) (suc k) d r lt = let more = rises (f.lease.sid + 1) fs k d r.1 (omega (arith, lt)) in omega (arith, r.0, more)

pub rising_before : (low : ℕ) (fs : List Flow) (k : ℕ) (d : Flow) → RisingFrom low (map flow_view fs) → k < length fs → AllByRecursion (λ (g : FlowRow). g.sid < (get_or fs k d).lease.sid) (map flow_view (take k fs))
rising_before low [] k d r lt = absurd (omega (arith, lt))
rising_before low (f ∷ fs) zero d r lt = tt
rising_before low (f ∷ fs) (suc k) d r lt = let more = rises (f.lease.sid + 1) fs k d r.1 (omega (arith, lt)) in (omega (arith, more), rising_before (f.lease.sid + 1) fs k d r.1 (omega (arith, lt)))

-- the lease at a place has the SID one above it
pub sid_of_place : (low : ℕ) (ls : List Lease) (k : ℕ) (d : Lease) → map (λ l. l.sid) ls ≡ range_with_len low (length ls) → k < length ls → (get_or ls k d).sid ≡ low + k
sid_of_place low [] k d e lt = absurd (omega (arith, lt))
sid_of_place low (l ∷ ls) zero d e lt = let first : l.sid ≡ low = cc in omega (arith, first)
sid_of_place low (l ∷ ls) (suc k) d e lt =
    let rest : map (λ (o : Lease). o.sid) ls ≡ range_with_len (low + 1) (length ls) = cc in
    let more = sid_of_place (low + 1) ls k d rest (omega (arith, lt)) in omega (arith, more)

-- what may be put into a table may be put into one that has some of the flows
pub may_be_put : (t : Table) (fs : List FlowRow) (f : Flow) → MayBePut t f → MayBePut (record t { flows = fs }) f
may_be_put t fs f m = record { good = m.good; due = m.due; leased = record { lease = m.leased.lease; goes_on = m.leased.goes_on } }

pub all_at : {X : Type 0} (P : X → Type 0) (xs : List X) (k : ℕ) (d : X) → AllByRecursion P xs → k < length xs → P (get_or xs k d)
all_at P [] k d all lt = absurd (omega (arith, lt))
all_at P (x ∷ xs) zero d all lt = all.0
all_at P (x ∷ xs) (suc k) d all lt = all_at P xs k d all.1 (omega (arith, lt))

-- ---- places

pub there_empty : (ps : Places) (sid : ℕ) → there (ps ++ (sid, None) ∷ []) ≡ there ps
there_empty [] sid = refl
there_empty ((s, Some f) ∷ ps) sid = ap (λ (es : Flows). (s, f) ∷ es) (there_empty ps sid)
there_empty ((s, None) ∷ ps) sid = there_empty ps sid

abbrev pub values : Flows → List Flow
values es = map (λ e. e.1) es

copy_step : (ps : Places) (k : ℕ) (f : Flow) → flow_at ps k ≡ Some f → values (there (take (suc k) ps)) ≡ values (there (take k ps)) ++ f ∷ []
copy_step [] k f e = absurd cc
copy_step ((s, None) ∷ ps) zero f e = absurd cc
copy_step ((s, Some g) ∷ ps) zero f e = let same : g ≡ f = cc in ap (λ (x : Flow). x ∷ []) same
copy_step ((s, None) ∷ ps) (suc k) f e = copy_step ps k f e
copy_step ((s, Some g) ∷ ps) (suc k) f e = ap (λ (xs : List Flow). g ∷ xs) (copy_step ps k f e)

pub copied_some : (ps : Places) (k : ℕ) (f : Flow) → flow_at ps k ≡ Some f → values (there (take (k + 1) ps)) ≡ values (there (take k ps)) ++ f ∷ []
copied_some ps k f e = rw add-one (copy_step ps k f e)

skip_step : (ps : Places) (k : ℕ) → flow_at ps k ≡ None → there (take (suc k) ps) ≡ there (take k ps)
skip_step [] zero e = refl
skip_step [] (suc k) e = refl
skip_step ((s, None) ∷ ps) zero e = refl
skip_step ((s, Some g) ∷ ps) zero e = absurd cc
skip_step ((s, None) ∷ ps) (suc k) e = skip_step ps k e
skip_step ((s, Some g) ∷ ps) (suc k) e = ap (λ (xs : Flows). (s, g) ∷ xs) (skip_step ps k e)

pub copied_none : (ps : Places) (k : ℕ) → flow_at ps k ≡ None → values (there (take (k + 1) ps)) ≡ values (there (take k ps))
copied_none ps k e = rw add-one (ap values (skip_step ps k e))

-- ---- a stored table, and a flow that is put behind the others

module _ (a : Inside) (now : Table) (kept : IsStored a) (view : table_view a ≡ now) (f : Flow) (may : MayBePut now f) (behind : AllByRecursion (λ (g : FlowRow). g.sid < f.lease.sid) now.flows) where
  leased_here : IsLeasedFlow (table_view a) (flow_view f)
  leased_here = subst (λ (t : Table). IsLeasedFlow t (flow_view f)) (sym view) may.leased

  below_here : (g : FlowRow) → Has (rows a.flows.entries) g → g.sid < f.lease.sid
  below_here = all_below (rows a.flows.entries) f.lease.sid (subst (λ (t : Table). AllByRecursion (λ (g : FlowRow). g.sid < f.lease.sid) t.flows) (sym view) behind)

  pub put_range : (1 ≤ f.lease.sid) × (f.lease.sid ≤ length a.leases) × (f.lease.sid ≤ last_sid)
  put_range = leased_range (table_view a) (flow_view f) kept.sound leased_here

  pub put_new : lookup (nat_eq f.lease.sid) a.flows.entries ≡ None
  put_new = none_found a.flows.entries f.lease.sid kept.flows (apart_below (rows a.flows.entries) f.lease.sid below_here)

  pub put_rows : rows (put_entry f.lease.sid f a.flows.entries) ≡ rows a.flows.entries ++ flow_view f ∷ []
  put_rows = ap rows (put_behind_all a.flows.entries f.lease.sid f kept.flows below_here) ∙ rows_pushed a.flows.entries f.lease.sid f

  pub put_sound : IsSound (with_flow_row (table_view a) (flow_view f))
  put_sound = sound_flowed (table_view a) (flow_view f) may.good leased_here below_here kept.sound

  pub put_stored : IsStoredFlow (f.lease.sid, f)
  put_stored = record { key = refl; due = may.due }

-- a table with a lease behind the others
module _ (a : Inside) (now : Table) (kept : IsStored a) (view : table_view a ≡ now) (l : Lease) (next : l.sid ≡ length now.leases + 1) (most : l.sid ≤ last_sid) where
  next_here : l.sid ≡ length a.leases + 1
  next_here = next ∙ ap (λ (t : Table). length t.leases + 1) (sym view)

  leases_are : (ls : List Lease) → ls ≡ put_lease l a.leases → ls ≡ a.leases ++ l ∷ []
  leases_are ls is = is ∙ put_last l a.leases kept.sound.given next_here

  pub view_leased : (fs : BySid) (ls : List Lease) → fs.entries ≡ a.flows.entries → ls ≡ put_lease l a.leases → table_view (record a { leases = ls; flows = fs }) ≡ with_lease (table_view a) l
  view_leased fs ls same is = same_table (table_view a) ls (a.leases ++ l ∷ []) (rows fs.entries) (rows a.flows.entries) (leases_are ls is) (ap rows same)

  pub stored_leased : (fs : BySid) (ls : List Lease) → fs.entries ≡ a.flows.entries → ls ≡ put_lease l a.leases → l.sid ≤ fs.sids → IsStored (record a { leases = ls; flows = fs })
  stored_leased fs ls same is room =
      stored_as (record a { leases = ls; flows = fs }) (with_lease (table_view a) l)
      (subst AreStored (sym same) kept.flows)
      (let more : length (a.leases ++ l ∷ []) ≡ length a.leases + 1 = length-append a.leases (l ∷ []) in
      let here = next_here in
      subst (λ (ms : List Lease). length ms ≤ fs.sids) (sym (leases_are ls is)) (omega (arith, more, here, room)))
      (subst (AreNoted a.dues) (sym same) kept.noted)
      (view_leased fs ls same is)
      (sound_leased (table_view a) l next_here most kept.sound)
      (subst (EndFrom a.first_end) (sym same) kept.ends)

  -- and one with a place more
  pub stored_placed : (fs : BySid) → fs.entries ≡ a.flows.entries → a.flows.sids ≤ fs.sids → (ls : List Lease) → ls ≡ a.leases → IsStored (record a { leases = ls; flows = fs })
  stored_placed fs same more ls is =
      let enough = kept.enough in
      stored_as (record a { leases = ls; flows = fs }) (table_view a)
      (subst AreStored (sym same) kept.flows)
      (subst (λ (ms : List Lease). length ms ≤ fs.sids) (sym is) (omega (arith, enough, more)))
      (subst (AreNoted a.dues) (sym same) kept.noted)
      (same_table (table_view a) ls a.leases (rows fs.entries) (rows a.flows.entries) is (ap rows same))
      kept.sound
      (subst (EndFrom a.first_end) (sym same) kept.ends)

-- ---- what is copied

pub lent_all : (es : Flows) → AreStored es → values es ≡ map lent_flow (rows es)
lent_all [] all = refl
lent_all (e ∷ es) all = ap (λ d. record e.1 { due = d } ∷ values es) all.0.due ∙ ap (λ (fs : List Flow). lent_flow (flow_view e.1) ∷ fs) (lent_all es all.1)
