-- The grants before a lease is told lie before it or are to other SIDs, and then its flow begins at due time number 0.
use Rattle.std.proofs.Common.{◌≡◌, ℕ, zero, suc, ◌+◌, ◌<◌, ◌≤◌, Bool, true, false, cond, not, List, [], ◌∷◌, ◌++◌}
use Rattle.std.proofs.Common.{filter, length, Option, Some, None, refl, sym, ap, subst, ◌∙◌, arith, eqb, inl, inr}
use Rattle.std.proofs.Common.{slice_get, append_assoc}
use Rattle.std.proofs.lemmas.Option.{same_Some}
use Rattle.std.specs.List.{list_any, find}
use Rattle.std.specs.List.Sorted.{IsStrictlyIncreasing}
use Rattle.std.specs.Prelude.{unwrap_or, slice_index, nat_le}
use Rattle.std.proofs.lemmas.Bool.{eqb-true, false_from_ne_true}
use Rattle.flow_state.specs.declared.flow.FlowKind.{FlowKind}
use Rattle.flow_state.specs.declared.flow.FlowKind.TheVariants.{Ugs, Station, Initial}
use Rattle.flow_state.specs.declared.refusal.Refusal.{Refusal}
use Rattle.flow_state.specs.declared.flow.Lease.{Lease}
use Rattle.flow_state.specs.Rows.{Rows, Table, FlowRow, is_flow, is_of, is_of_sid, is_given, table_of, change_table}
use Rattle.flow_state.specs.Rows.{lease_of, free_sid, first_of, put_lease, insert_flow, lease_in}
use Rattle.flow_state.specs.Refusals.{table_flow_refusal}
use Rattle.flow_state.specs.Changes.{new_flow, new_lease, flow_among, flow_in_table, lease_among, lease_for, lease_on}
use Rattle.flow_state.specs.Changes.{lease_given}
use Rattle.grant_machine.specs.declared.command.Command.{Command}
use Rattle.grant_machine.specs.declared.command.Command.TheVariants as commands
use Rattle.grant_machine.specs.declared.output.Output.{Output}
use Rattle.grant_machine.specs.declared.output.Output.TheVariants as outputs
use Rattle.grant_machine_parts.specs.declared.placing.Placement.{Placement}
use Rattle.grant_machine_parts.specs.Cutting.{Filled, fill, span_of, table_after}
use Rattle.grant_machine.specs.Steps.{step, step_on, refusal_of, accepted, lease_output}
use Rattle.grant_machine.specs.Runs.{outputs_from, grants_from, Grant, step_grants, step_grants_on}
use Rattle.grant_machine.specs.Laws.{LeasedSid, IsAddedAt, UnsolicitedGrantsAreDue, is_grant_to}
use Rattle.grant_machine.specs.Maintenance.{AreDueUnder, MaintenanceIsDue}
use Rattle.grant_machine_parts.proofs.Callers.{IsSized, Rising, cut_placed}
use Rattle.flow_state.proofs.Callers.{some_is, eqb_same, flow_keeps_id, filter_append, filter_empty, filter_sub}
use Rattle.flow_state.proofs.Callers.{Has, has_any, any_has, found_has, has_found, has_either, put_found, put_others}
use Rattle.flow_state.proofs.Callers.{IsWell, flow_lease}
use Rattle.grant_machine.proofs.Leases.{IsNew, is_new, flow_step_is, put_has}
use Rattle.grant_machine.proofs.Turns.{made, Changes, before, found_changed}
use Rattle.grant_machine.proofs.Reached.{Kept, Stands, stands_step, AllWell, none_well, well_step}
use Rattle.grant_machine.proofs.Cuts.{cut_of_grant}
use Rattle.grant_machine.proofs.Due.{none_granted, Holds, ServesDues, AreDue, due_from}

-- ---- grants so far

-- the SID was given, and this minislot lies before the channel's next MAP
pub record Behind (t : Table) (sid start : ℕ) : Type 0 where
  pub given : is_given t sid ≡ true
  pub past : start < t.row.next_start

-- a SID that was given stays given
given_more : (n : Lease) (ls : List Lease) (sid : ℕ) → list_any (is_of_sid sid) ls ≡ true → list_any (is_of_sid sid) (put_lease n ls) ≡ true
given_more n ls sid given = by (eqb n.sid sid) refl
  where
    any : (xs : List Lease) (l : Lease) → find (is_of_sid sid) xs ≡ Some l → list_any (is_of_sid sid) xs ≡ true
    any xs l e = let f = found_has (is_of_sid sid) xs l e in has_any (is_of_sid sid) xs l f.0 f.1

    by : (b : Bool) → eqb n.sid sid ≡ b → list_any (is_of_sid sid) (put_lease n ls) ≡ true
    by true same = any (put_lease n ls) n (ap (λ m. find (is_of_sid m) (put_lease n ls)) (sym (eqb-true _ _ same)) ∙ put_found n ls)
    by false off =
        let old = any_has (is_of_sid sid) ls given in
        let found = has_found (is_of_sid sid) ls old.0 old.1 old.2 in
        any (put_lease n ls) found.0 (put_others n ls sid off ∙ found.1)

behind_kept : (sid start : ℕ) → Kept (λ t. Behind t sid start)
behind_kept sid start = record {
  change = λ t s ok b. record { given = b.given; past = b.past };
  flow = λ t modem tag last kind none ok b. record { given = given_more (new_lease t modem tag last (unwrap_or (free_sid t) 0)) t.leases sid b.given; past = b.past };
  drop = λ t at b. record { given = b.given; past = b.past };
  request = λ t at n sent ok b. record { given = b.given; past = b.past };
  cut = λ t asks ok b. record { given = b.given; past = (let past = b.past in let later : t.row.next_start ≤ (span_of t.row asks.len asks.not_before).start = omega arith in omega arith) };
}

-- the grant is to a SID that was given, and begins before the channel's next MAP
abbrev IsBehind : Rows → Grant → Type 0
IsBehind rows g = Stands (λ t. Behind t g.sid g.start) rows g.channel

behind_now : (rows : Rows) (c : Command) (g : Grant) → AllWell rows → Has (step_grants rows c) g → IsBehind (step rows c).rows g
behind_now rows c g w h =
    let s = cut_of_grant rows c g h in
    let cut = s.cut in
    let t : Table = cut.table in
    let p : Placement = s.placement in
    let f : Filled = fill t cut.settings in
    let well = w g.channel t cut.found in
    let placed = (cut_placed t cut.settings well cut.ok).each p s.there in
    let flow : FlowRow = placed.leased.0 in
    let to : flow.sid ≡ p.sid = placed.leased.2 in
    let lease = flow_lease t flow (well.given flow placed.leased.1) in
    let within : p.offset + p.size ≤ f.span.len = placed.within in
    let some : 1 ≤ p.size = placed.some in
    subst (IsBehind (step rows c).rows) s.is (record {
      table = table_after t f;
      found = cut.after;
      holds = record { given = has_any (is_of_sid p.sid) t.leases (lease_in flow) lease (ap (λ n. eqb n p.sid) to ∙ eqb_same p.sid); past = omega arith };
    })

-- all of these grants
abbrev AllBehind : Rows → List Grant → Type 0
AllBehind rows gs = (g : Grant) → Has gs g → IsBehind rows g

behind_step : (rows : Rows) (c : Command) (gs : List Grant) → AllWell rows → AllBehind rows gs → AllBehind (step rows c).rows (gs ++ step_grants rows c)
behind_step rows c gs w all g h = elim (has_either gs (step_grants rows c) g h) [
  | inl old ↦ stands_step (λ t. Behind t g.sid g.start) (behind_kept g.sid g.start) rows c g.channel (all g old)
  | inr now ↦ behind_now rows c g w now
]

-- ---- a lease that isn't told yet

abbrev NotThere : LeasedSid → Table → Type 0
NotThere lease t = (l : Lease) → Has t.leases l → l.sid ≡ lease.sid → l.first ≡ lease.first → l.last ≡ lease.last → ⊥

abbrev Unheard : Rows → LeasedSid → Type 0
Unheard rows lease = (t : Table) → table_of rows lease.channel ≡ Some t → NotThere lease t

-- the output tells the lease to nobody
abbrev TellsNot : Output → LeasedSid → Type 0
TellsNot out lease = (m : ℕ) → ¬ (out ≡ outputs.Assigned m lease.channel lease.sid lease.first lease.last)

-- a flow is added under another lease
unheard_flow : (o : Option Lease) (t : Table) (modem tag last : ℕ) (kind : FlowKind) (lease : LeasedSid)
    → (let l = lease_among o t modem tag last in l.sid ≡ lease.sid → l.first ≡ lease.first → l.last ≡ lease.last → ⊥) → NotThere lease t → NotThere lease (flow_among o t modem tag last kind)
unheard_flow (Some a) t modem tag last kind lease other none = none
unheard_flow None t modem tag last kind lease other none = λ l h sid first until. elim (put_has (new_lease t modem tag last (unwrap_or (free_sid t) 0)) t.leases l h) [
  | inl new ↦ other (ap (λ (x : Lease). x.sid) new ∙ sid) (ap (λ (x : Lease). x.first) new ∙ first) (ap (λ (x : Lease). x.last) new ∙ until)
  | inr old ↦ none l old.0 sid first until
]

told_as : (modem : ℕ) (l : Lease) (lease : LeasedSid) → l.sid ≡ lease.sid → l.first ≡ lease.first → l.last ≡ lease.last → lease_output modem lease.channel l ≡ outputs.Assigned modem lease.channel lease.sid lease.first lease.last
told_as modem l lease sid first last = rw (sid, first, last) refl

made_unheard : (rows : Rows) (c : Command) (t : Table) (lease : LeasedSid) → table_of rows lease.channel ≡ Some t → Changes c lease.channel t → TellsNot (accepted rows c).output lease → NotThere lease t → NotThere lease (made c t)
made_unheard rows commands.Noop t lease found e none there = absurd e
made_unheard rows (commands.Channel c) t lease found e none there = absurd e
made_unheard rows (commands.Change at s) t lease found e none there = there
made_unheard rows (commands.Flow at modem tag last kind) t lease found e none there =
    unheard_flow (lease_of t modem tag) t modem tag last kind lease (λ sid first until. none modem (
    ap (λ n. lease_output modem n (lease_given rows n modem tag last)) e.0 ∙ ap (λ o. lease_output modem lease.channel (lease_on o modem tag last)) found
    ∙ told_as modem (lease_for t modem tag last) lease sid first until)) there
made_unheard rows (commands.Drop at other) t lease found e none there = there
made_unheard rows (commands.Request at other m sent) t lease found e none there = there
made_unheard rows (commands.Cut at len not_before ack keep ranging sending) t lease found e none there = there

unheard_step : (rows : Rows) (c : Command) (lease : LeasedSid) → TellsNot (step rows c).output lease → Unheard rows lease → Unheard (step rows c).rows lease
unheard_step rows c lease none u t e = elim (before rows c lease.channel t e) [
  | inl old ↦ u t old
  | inr (inl set) ↦ subst (NotThere lease) set.is (λ l h. absurd h)
  | inr (inr (s, found, makes)) ↦
      let quiet : TellsNot (accepted rows c).output lease = subst (λ (o : Option Refusal). TellsNot (step_on o rows c).output lease) makes.ok none in
      subst (NotThere lease) makes.is (made_unheard rows c s lease found makes.changes quiet (u s found))
]

-- ---- the flow is added

-- the flow in its place is the one of its SID
insert_own : (sid : ℕ) (f : FlowRow) (fs : List FlowRow) → eqb f.sid sid ≡ true → filter (is_flow sid) fs ≡ [] → filter (is_flow sid) (insert_flow f fs) ≡ f ∷ []
insert_own sid f fs here none =
    filter_append (is_flow sid) (filter (λ g. nat_le g.sid f.sid) fs) (f ∷ filter (λ g. not (nat_le g.sid f.sid)) fs)
    ∙ ap (λ (xs : List FlowRow). xs ++ cond (eqb f.sid sid) (f ∷ filter (is_flow sid) (filter (λ g. not (nat_le g.sid f.sid)) fs)) (filter (is_flow sid) (filter (λ g. not (nat_le g.sid f.sid)) fs))) (filter_sub (is_flow sid) (λ g. nat_le g.sid f.sid) fs none)
    ∙ ap (λ b. cond b (f ∷ filter (is_flow sid) (filter (λ g. not (nat_le g.sid f.sid)) fs)) (filter (is_flow sid) (filter (λ g. not (nat_le g.sid f.sid)) fs))) here
    ∙ ap (λ (xs : List FlowRow). f ∷ xs) (filter_sub (is_flow sid) (λ g. not (nat_le g.sid f.sid)) fs none)

module _ (lease : LeasedSid) (own_kind : FlowKind) (size interval jitter base : ℕ) (sized : IsSized own_kind size interval jitter base) where
  -- what a step that adds the flow finds: a table in which the lease is a new one
  pub record IsFirst (rows : Rows) (modem tag : ℕ) : Type 0 where
    pub table : Table
    pub found : table_of rows lease.channel ≡ Some table
    pub well : IsWell table
    pub new : IsNew table lease.sid lease.last
    pub first_is : first_of table lease.sid ≡ lease.first
    pub sid_is : unwrap_or (free_sid table) 0 ≡ lease.sid
    pub none : lease_of table modem tag ≡ None

  -- no flow and no request has a SID that is free
  no_flow : (t : Table) → IsWell t → IsNew t lease.sid lease.last → (f : FlowRow) → Has t.flows f → f.sid ≡ lease.sid → ⊥
  no_flow t w new f h same =
      let leased = w.given f h in
      let over : f.last < t.row.next_start = (new.over (lease_in f) (flow_lease t f leased) same).0 in
      let on : t.row.next_start ≤ f.last = leased.goes_on in
      omega arith

  first_is_not : (t : Table) (l : Lease) (modem tag : ℕ) → lease_of t modem tag ≡ Some l → NotThere lease t → l.sid ≡ lease.sid → l.first ≡ lease.first → l.last ≡ lease.last → ⊥
  first_is_not t l modem tag e none sid first last = none l (found_has _ t.leases l e).0 sid first last

  table_first : (rows : Rows) (t : Table) (modem tag : ℕ) (kind : FlowKind) (o : Option Lease) → table_of rows lease.channel ≡ Some t → IsWell t → NotThere lease t → lease_of t modem tag ≡ o → table_flow_refusal t modem tag lease.last kind ≡ None
      → (lease_among o t modem tag lease.last).sid ≡ lease.sid → (lease_among o t modem tag lease.last).first ≡ lease.first → (lease_among o t modem tag lease.last).last ≡ lease.last → IsFirst rows modem tag
  table_first rows t modem tag kind (Some l) found w none e ok sid first last = absurd (first_is_not t l modem tag e none sid first last)
  table_first rows t modem tag kind None found w none e ok sid first last = record {
    table = t;
    found = found;
    well = w;
    new = subst (λ n. IsNew t n lease.last) sid (is_new t modem tag lease.last kind e ok);
    first_is = ap (first_of t) (sym sid) ∙ first;
    sid_is = sid;
    none = e;
  }

  told_fields : (modem m : ℕ) (l : Lease) → lease_output modem lease.channel l ≡ outputs.Assigned m lease.channel lease.sid lease.first lease.last → (l.sid ≡ lease.sid) × (l.first ≡ lease.first) × (l.last ≡ lease.last)
  told_fields modem m l e = (cc, cc, cc)

  -- a step that tells the lease first
  step_first : (rows : Rows) (modem tag m : ℕ) (kind : FlowKind) → AllWell rows → Unheard rows lease → refusal_of rows (commands.Flow lease.channel modem tag lease.last kind) ≡ None
      → lease_output modem lease.channel (lease_given rows lease.channel modem tag lease.last) ≡ outputs.Assigned m lease.channel lease.sid lease.first lease.last → IsFirst rows modem tag
  step_first rows modem tag m kind w u ok told =
      let f = flow_step_is rows lease.channel modem tag lease.last kind ok in
      let t : Table = f.table in
      let fields = told_fields modem m (lease_for t modem tag lease.last) (ap (lease_output modem lease.channel) (sym f.gives) ∙ told) in
      table_first rows t modem tag kind (lease_of t modem tag) f.found (w lease.channel t f.found) (u t f.found) refl f.ok fields.0 fields.1 fields.2

  -- the flow after it
  first_serves : (rows : Rows) (modem tag : ℕ) → IsFirst rows modem tag → ServesDues lease own_kind size interval jitter base sized (change_table rows lease.channel (λ t. flow_in_table t modem tag lease.last own_kind)) 0
  first_serves rows modem tag f = record {
    table = flow_in_table f.table modem tag lease.last own_kind;
    found = found_changed rows lease.channel (λ v. flow_in_table v modem tag lease.last own_kind) f.table (λ v. flow_keeps_id (lease_of v modem tag) v modem tag lease.last own_kind) f.found;
    holds = inr (subst (λ (o : Option Lease). Holds lease own_kind size interval jitter base sized (flow_among o f.table modem tag lease.last own_kind) 0) (sym f.none) (holds f));
  }
    where
      holds : (f : IsFirst rows modem tag) → Holds lease own_kind size interval jitter base sized (flow_among None f.table modem tag lease.last own_kind) 0
      holds f =
          let t : Table = f.table in
          let given : Lease = new_lease t modem tag lease.last (unwrap_or (free_sid t) 0) in
          let off = no_flow t f.well f.new in
          let no_flows : filter (is_flow lease.sid) t.flows ≡ [] = filter_empty (is_flow lease.sid) t.flows (λ g h. false_from_ne_true (eqb g.sid lease.sid) (λ e. off g h (eqb-true _ _ e))) in
          let no_requests : filter (is_of lease.sid) t.waiting ≡ [] = filter_empty (is_of lease.sid) t.waiting
          (λ w h. false_from_ne_true (eqb w.sid lease.sid) (λ e. let r = f.well.requests w h in off r.flow r.there (r.sid ∙ eqb-true _ _ e))) in
          let test : eqb (unwrap_or (free_sid t) 0) lease.sid ≡ true = ap (λ n. eqb n lease.sid) f.sid_is ∙ eqb_same lease.sid in
          record {
            serving = record {
              flows = inr (new_flow given own_kind, insert_own lease.sid (new_flow given own_kind) t.flows test no_flows, refl, omega arith);
              waiting = no_requests;
            };
            own = given;
            found = ap (λ n. find (is_of_sid n) (put_lease given t.leases)) (sym f.sid_is) ∙ put_found given t.leases;
            last_is = refl;
          }

  -- the grants before it aren't under the lease
  before_none : (rows : Rows) (modem tag : ℕ) (gs : List Grant) → IsFirst rows modem tag → AllBehind rows gs → filter (is_grant_to lease) gs ≡ []
  before_none rows modem tag gs f all = none_granted lease gs (λ g h to.
      let b = all g h in
      let same : b.table ≡ f.table = some_is b.table f.table (sym b.found ∙ ap (table_of rows) to.channel ∙ f.found) in
      let given : is_given f.table lease.sid ≡ true = subst (λ (t : Table). is_given t lease.sid ≡ true) same (subst (λ n. is_given b.table n ≡ true) to.sid_is b.holds.given) in
      let past : g.start < f.table.row.next_start = subst (λ (t : Table). g.start < t.row.next_start) same b.holds.past in
      let first : f.table.row.next_start ≡ lease.first = sym (ap (λ c. cond c f.table.row.next_start 0) given) ∙ f.first_is in
      let begun : lease.first ≤ g.start = to.begun in
      omega arith)

  -- a step that adds the flow, and what was granted before it
  step_adds : (rows : Rows) (modem tag m : ℕ) → AllWell rows → Unheard rows lease → (step rows (commands.Flow lease.channel modem tag lease.last own_kind)).output ≡ outputs.Assigned m lease.channel lease.sid lease.first lease.last
      → IsFirst rows modem tag × ServesDues lease own_kind size interval jitter base sized (step rows (commands.Flow lease.channel modem tag lease.last own_kind)).rows 0 × (step_grants rows (commands.Flow lease.channel modem tag lease.last own_kind) ≡ [])
  step_adds rows modem tag m w u e = by (refusal_of rows (commands.Flow lease.channel modem tag lease.last own_kind)) refl e
    where
      by : (o : Option Refusal) → refusal_of rows (commands.Flow lease.channel modem tag lease.last own_kind) ≡ o → (step_on o rows (commands.Flow lease.channel modem tag lease.last own_kind)).output ≡ outputs.Assigned m lease.channel lease.sid lease.first lease.last
          → IsFirst rows modem tag × ServesDues lease own_kind size interval jitter base sized (step_on o rows (commands.Flow lease.channel modem tag lease.last own_kind)).rows 0 × (step_grants_on o rows (commands.Flow lease.channel modem tag lease.last own_kind) ≡ [])
      by (Some r) h f = absurd cc
      by None h f = let first = step_first rows modem tag m own_kind w u h f in (first, first_serves rows modem tag first, refl)

  -- ---- over a list of commands

  from_rows : (rows : Rows) (cs : List Command) (k modem tag : ℕ) (gs : List Grant) → AllWell rows → Unheard rows lease → AllBehind rows gs
      → slice_get cs k ≡ Some (commands.Flow lease.channel modem tag lease.last own_kind) → slice_get (outputs_from rows cs) k ≡ Some (outputs.Assigned modem lease.channel lease.sid lease.first lease.last)
      → ((j other : ℕ) → j < k → ¬ (slice_get (outputs_from rows cs) j ≡ Some (outputs.Assigned other lease.channel lease.sid lease.first lease.last)))
      → AreDue lease own_kind size interval jitter base sized (filter (is_grant_to lease) (gs ++ grants_from rows cs)) 0
  from_rows rows [] k modem tag gs w u all c_is o_is new = absurd cc
  from_rows rows (c ∷ cs) zero modem tag gs w u all c_is o_is new =
      let flow : Command = commands.Flow lease.channel modem tag lease.last own_kind in
      let same : c ≡ flow = same_Some c flow c_is in
      let adds = step_adds rows modem tag modem w u (ap (λ (d : Command). (step rows d).output) (sym same) ∙ same_Some _ _ o_is) in
      let rest = due_from lease own_kind size interval jitter base sized (step rows flow).rows cs 0 adds.1 in
      let front = before_none rows modem tag gs adds.0 all in
      let parts : filter (is_grant_to lease) (gs ++ grants_from rows (c ∷ cs)) ≡ filter (is_grant_to lease) (grants_from (step rows flow).rows cs) =
      filter_append (is_grant_to lease) gs (grants_from rows (c ∷ cs)) ∙ ap (λ (hs : List Grant). hs ++ filter (is_grant_to lease) (grants_from rows (c ∷ cs))) front
      ∙ ap (λ (d : Command). filter (is_grant_to lease) (step_grants rows d ++ grants_from (step rows d).rows cs)) same
      ∙ ap (λ (hs : List Grant). filter (is_grant_to lease) (hs ++ grants_from (step rows flow).rows cs)) adds.2 in
      subst (λ (hs : List Grant). AreDue lease own_kind size interval jitter base sized hs 0) (sym parts) rest
  from_rows rows (c ∷ cs) (suc k) modem tag gs w u all c_is o_is new =
      let later = unheard_step rows c lease (λ m e. new 0 m (omega arith) (ap (λ (o : Output). Some o) e)) u in
      let rest = from_rows (step rows c).rows cs k modem tag (gs ++ step_grants rows c) (well_step rows c w) later (behind_step rows c gs w all) c_is o_is (λ j other lt e. new (suc j) other (omega arith) e) in
      subst (λ (hs : List Grant). AreDue lease own_kind size interval jitter base sized (filter (is_grant_to lease) hs) 0) (append_assoc gs (step_grants rows c) (grants_from (step rows c).rows cs)) rest

rises : (first : ℕ) (is : List ℕ) (end : ℕ) → Rising first is end → (k : ℕ) → suc k < length is → slice_index is k < slice_index is (suc k)
rises first [] end r k lt = absurd (omega arith)
rises first (i ∷ []) end r k lt = absurd (omega arith)
rises first (i ∷ j ∷ is) end r zero lt = omega (arith, r.1.0)
rises first (i ∷ j ∷ is) end r (suc k) lt = rises (i + 1) (j ∷ is) end r.1 k (omega arith)

increasing : (first : ℕ) (is : List ℕ) (end : ℕ) → Rising first is end → IsStrictlyIncreasing is
increasing first is end r k lt = let next : k + 1 ≡ suc k = omega arith in rw next (rises first is end r k (omega arith))

-- the grants under the lease of a flow that is given so many minislots at due times, in order, begin within the jitter of
-- due times whose numbers rise
sized_grants_are_due : (cs : List Command) (k : ℕ) (lease : LeasedSid) (kind : FlowKind) (size interval jitter base : ℕ) → IsSized kind size interval jitter base → IsAddedAt cs k lease kind → AreDueUnder cs lease kind size jitter
sized_grants_are_due cs k lease kind size interval jitter base sized a =
    let due = from_rows lease kind size interval jitter base sized [] cs k a.modem a.tag [] none_well (λ t e. absurd cc) (λ g h. absurd h) a.asked a.added (λ j other lt e. a.new j other lt e) in
    (due.numbers, increasing 0 due.numbers due.next due.rising, due.due)

-- so do those of an unsolicited grant flow
pub unsolicited_grants_are_due : UnsolicitedGrantsAreDue
unsolicited_grants_are_due cs k lease size interval jitter base a = sized_grants_are_due cs k lease (Ugs size interval jitter base) size interval jitter base (inl refl) a

-- and those of flows of station and of initial maintenance
pub maintenance_is_due : MaintenanceIsDue
maintenance_is_due = record {
  station = λ cs k lease size interval jitter base a. sized_grants_are_due cs k lease (Station size interval jitter base) size interval jitter base (inr (inl refl)) a;
  initial = λ cs k lease size interval jitter base a. sized_grants_are_due cs k lease (Initial size interval jitter base) size interval jitter base (inr (inr refl)) a;
}
