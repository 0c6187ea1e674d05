-- The leases of one SID lie apart: a new one begins behind the last minislots of those before it.
use Rattle.std.proofs.Common.{◌≡◌, ◌⊎◌, ℕ, zero, suc, ◌<◌, ◌≤◌, Bool, true, false, List, [], ◌∷◌, Option, Some, None}
use Rattle.std.proofs.Common.{refl, sym, ap, subst, ◌∙◌, arith, slice_get, eqb, ltb, inl, inr}
use Rattle.std.proofs.lemmas.Option.{same_Some}
use Rattle.std.specs.List.{find}
use Rattle.std.specs.Prelude.{unwrap_or}
use Rattle.std.proofs.lemmas.Bool.{eqb-true, false_from_ne_true, ltb-true}
use Rattle.flow_state.specs.declared.flow.FlowKind.{FlowKind}
use Rattle.flow_state.specs.declared.refusal.Refusal.{Refusal}
use Rattle.flow_state.specs.declared.flow.Lease.{Lease}
use Rattle.flow_state.specs.Rows.{Rows, Table, table_of, lease_of, is_of_sid, free_sid, first_of, put_lease}
use Rattle.flow_state.specs.Refusals.{table_flow_refusal, on_table}
use Rattle.flow_state.specs.Changes.{new_lease, add_to_table, flow_among, flow_in_table, lease_among, lease_for}
use Rattle.flow_state.specs.Changes.{lease_on, lease_given, with_flow}
use Rattle.flow_state.proofs.Callers.{Has, has_between, found_has, lease_is, put_found, put_others, over_before}
use Rattle.flow_state.proofs.Callers.{is_added, unwrap_some}
use Rattle.flow_state.proofs.Callers.{refusal_there, flow_keeps_id, there, some_is}
use Rattle.grant_machine.specs.declared.command.Command.{Command}
use Rattle.grant_machine.specs.declared.command.Command.TheVariants as commands
use Rattle.grant_machine.specs.declared.output.Output.{Output}
use Rattle.grant_machine.specs.declared.output.Output.TheVariants as outputs
use Rattle.grant_machine.specs.Steps.{cut_settings, step, step_on, refusal_of, accepted, cut_on}
use Rattle.grant_machine.specs.Runs.{outputs_from}
use Rattle.grant_machine.specs.Laws.{InLease, LeasesAreApart}
use Rattle.grant_machine.proofs.Turns.{found_changed}
use Rattle.grant_machine.proofs.Reached.{Kept, At, at_step, Stands, stands_step}
use Rattle.grant_machine_parts.specs.declared.settings.CutSettings.{CutSettings}

-- ---- the lease of a flow that is added

-- a new lease of a SID: each one that the SID had is over, and this one begins where they have ended
pub record IsNew (t : Table) (sid last : ℕ) : Type 0 where
  pub free : free_sid t ≡ Some sid
  pub goes_on : t.row.next_start ≤ last
  pub over : (l : Lease) → Has t.leases l → l.sid ≡ sid → (l.last < t.row.next_start) × (first_of t sid ≡ t.row.next_start)

pub is_new : (t : Table) (modem tag last : ℕ) (kind : FlowKind) → lease_of t modem tag ≡ None → table_flow_refusal t modem tag last kind ≡ None → IsNew t (unwrap_or (free_sid t) 0) last
is_new t modem tag last kind none ok =
    let a = is_added t modem tag last kind none ok in
    subst (λ n. IsNew t n last) (sym (unwrap_some (free_sid t) a.sid a.free)) (record { free = a.free; goes_on = a.goes_on; over = λ l h same. over_before t a.sid l a.free h same })

-- ---- tables

-- the SID's latest lease is this one
pub record Latest (t : Table) (sid modem first last : ℕ) : Type 0 where
  pub lease : Lease
  pub found : find (is_of_sid sid) t.leases ≡ Some lease
  pub modem_is : lease.modem ≡ modem
  pub first_is : lease.first ≡ first
  pub last_is : lease.last ≡ last

-- a lease of the SID was told: it is the latest one, or it is over and the latest one begins behind it
pub record Told (t : Table) (sid modem first last : ℕ) : Type 0 where
  pub lease : Lease
  pub found : find (is_of_sid sid) t.leases ≡ Some lease
  pub is : ((lease.modem ≡ modem) × (lease.first ≡ first) × (lease.last ≡ last)) ⊎ ((last < lease.first) × (last < t.row.next_start))

pub latest_told : (t : Table) (sid modem first last : ℕ) → Latest t sid modem first last → Told t sid modem first last
latest_told t sid modem first last l = record { lease = l.lease; found = l.found; is = inl (l.modem_is, l.first_is, l.last_is) }

-- a lease's SID leads back to it
abbrev pub LeadBack : List Lease → Type 0
LeadBack ls = (l : Lease) → Has ls l → find (is_of_sid l.sid) ls ≡ Some l

-- what a list has after a lease is put into it: that lease, and those of other SIDs
pub put_has : (n : Lease) (ls : List Lease) (l : Lease) → Has (put_lease n ls) l → (n ≡ l) ⊎ (Has ls l × (eqb n.sid l.sid ≡ false))
put_has n ls l h = elim (has_between (λ o. ltb o.sid n.sid) (λ o. ltb n.sid o.sid) n ls l h) [
  | inl (old, side) ↦ inr (
    old,
    false_from_ne_true (eqb n.sid l.sid) (λ e. let same : n.sid ≡ l.sid = eqb-true _ _ e in elim side [
      | inl below ↦ (let lt = ltb-true l.sid n.sid below in omega arith)
      | inr above ↦ (let lt = ltb-true n.sid l.sid above in omega arith)
    ]),
  )
  | inr is ↦ inl is
]

put_back : (n : Lease) (ls : List Lease) → LeadBack ls → LeadBack (put_lease n ls)
put_back n ls back l h = elim (put_has n ls l h) [
  | inl new ↦ subst (λ (x : Lease). find (is_of_sid x.sid) (put_lease n ls) ≡ Some x) new (put_found n ls)
  | inr old ↦ put_others n ls l.sid old.1 ∙ back l old.0
]

-- ---- a table after a flow is added

-- what was told before is over, where a new lease is of its SID
kept_new : (t : Table) (modem tag last sid : ℕ) → IsNew t sid last → (s m first until : ℕ) → Told t s m first until → eqb sid s ≡ true → (until < first_of t sid) × (until < t.row.next_start)
kept_new t modem tag last sid new s m first until p same =
    let had = found_has (is_of_sid s) t.leases p.lease p.found in
    let own : p.lease.sid ≡ sid = eqb-true _ _ had.1 ∙ sym (eqb-true _ _ same) in
    let over = new.over p.lease had.0 own in
    let ends : p.lease.last < t.row.next_start = over.0 in
    let begins : first_of t sid ≡ t.row.next_start = over.1 in
    let before : until < t.row.next_start = elim p.is [ inl is ↦ (let last_is : p.lease.last ≡ until = is.2 in omega arith) | inr is ↦ is.1 ] in
    (omega arith, before)

told_kept : (s m first until : ℕ) → Kept (λ t. Told t s m first until)
told_kept s m first until = record {
  change = λ t s ok p. record { lease = p.lease; found = p.found; is = p.is };
  flow = λ t modem tag last kind e ok p. by t modem tag last kind (unwrap_or (free_sid t) 0) (is_new t modem tag last kind e ok) p (eqb (unwrap_or (free_sid t) 0) s) refl;
  drop = λ t sid p. record { lease = p.lease; found = p.found; is = p.is };
  request = λ t sid n sent ok p. record { lease = p.lease; found = p.found; is = p.is };
  cut = λ t asks ok p. record {
    lease = p.lease;
    found = p.found;
    is = elim p.is [ inl is ↦ inl is | inr is ↦ inr (is.0, (let past = is.1 in omega arith)) ];
  };
}
  where
    by : (t : Table) (modem tag last : ℕ) (kind : FlowKind) (sid : ℕ) → IsNew t sid last → Told t s m first until → (b : Bool) → eqb sid s ≡ b → Told (add_to_table t (new_lease t modem tag last sid) kind) s m first until
    by t modem tag last kind sid new p true same =
        let given : Lease = new_lease t modem tag last sid in
        record {
          lease = given;
          found = ap (λ n. find (is_of_sid n) (put_lease given t.leases)) (sym (eqb-true _ _ same)) ∙ put_found given t.leases;
          is = inr (kept_new t modem tag last sid new s m first until p same);
        }
    by t modem tag last kind sid new p false off = record { lease = p.lease; found = put_others (new_lease t modem tag last sid) t.leases s off ∙ p.found; is = p.is }

back_kept : Kept (λ t. LeadBack t.leases)
back_kept = record {
  change = λ t s ok back. back;
  flow = λ t modem tag last kind none ok back. put_back (new_lease t modem tag last (unwrap_or (free_sid t) 0)) t.leases back;
  drop = λ t sid back. back;
  request = λ t sid n sent ok back. back;
  cut = λ t asks ok back. back;
}

-- the lease of a flow that is added is its SID's latest
gives_latest : (o : Option Lease) (t : Table) (modem tag last : ℕ) (kind : FlowKind) → lease_of t modem tag ≡ o → LeadBack t.leases
    → let l = lease_among o t modem tag last in Latest (flow_among o t modem tag last kind) l.sid modem l.first l.last
gives_latest (Some l) t modem tag last kind e back = let is = lease_is t modem tag l e in record { lease = l; found = back l is.0; modem_is = is.1; first_is = refl; last_is = refl }
gives_latest None t modem tag last kind e back =
    let given : Lease = new_lease t modem tag last (unwrap_or (free_sid t) 0) in
    record { lease = given; found = put_found given t.leases; modem_is = refl; first_is = refl; last_is = refl }

-- ---- rows

abbrev pub AllLeadBack : Rows → Type 0
AllLeadBack rows = (ch : ℕ) → At (λ t. LeadBack t.leases) rows ch

-- the channel's table has the lease as its SID's latest, and knows the lease as told
abbrev pub IsLatest : Rows → (ch sid modem first last : ℕ) → Type 0
IsLatest rows ch sid modem first last = Stands (λ t. Latest t sid modem first last) rows ch

abbrev pub IsTold : Rows → (ch sid modem first last : ℕ) → Type 0
IsTold rows ch sid modem first last = Stands (λ t. Told t sid modem first last) rows ch

pub now_told : (rows : Rows) (ch sid modem first last : ℕ) → IsLatest rows ch sid modem first last → IsTold rows ch sid modem first last
now_told rows ch sid modem first last l = record { table = l.table; found = l.found; holds = latest_told l.table sid modem first last l.holds }

pub back_step : (rows : Rows) (c : Command) → AllLeadBack rows → AllLeadBack (step rows c).rows
back_step rows c good ch = at_step (λ t. LeadBack t.leases) back_kept rows c ch (λ n is ok l h. absurd h) (good ch)

pub told_step : (rows : Rows) (c : Command) (ch sid modem first last : ℕ) → IsTold rows ch sid modem first last → IsTold (step rows c).rows ch sid modem first last
told_step rows c ch sid modem first last p = stands_step (λ t. Told t sid modem first last) (told_kept sid modem first last) rows c ch p

-- a command that adds a flow, and isn't refused
pub record IsFlowStep (rows : Rows) (ch modem tag last : ℕ) (kind : FlowKind) : Type 0 where
  pub table : Table
  pub found : table_of rows ch ≡ Some table
  pub ok : table_flow_refusal table modem tag last kind ≡ None
  pub gives : lease_given rows ch modem tag last ≡ lease_for table modem tag last
  pub after : table_of (with_flow rows ch modem tag last kind) ch ≡ Some (flow_in_table table modem tag last kind)

pub flow_step_is : (rows : Rows) (ch modem tag last : ℕ) (kind : FlowKind) → on_table rows ch (λ t. table_flow_refusal t modem tag last kind) ≡ None → IsFlowStep rows ch modem tag last kind
flow_step_is rows ch modem tag last kind ok =
    let (t, found) = there (table_of rows ch) (λ t. table_flow_refusal t modem tag last kind) ok in
    record {
      table = t;
      found = found;
      ok = refusal_there rows ch t (λ u. table_flow_refusal u modem tag last kind) found ok;
      gives = ap (λ o. lease_on o modem tag last) found;
      after = found_changed rows ch (λ u. flow_in_table u modem tag last kind) t (λ u. flow_keeps_id (lease_of u modem tag) u modem tag last kind) found;
    }

-- a lease that an output tells is its SID's latest in the rows
abbrev KnowsTold : Rows → Output → Type 0
KnowsTold rows outputs.Nothing = Unit {0}
KnowsTold rows (outputs.ChannelSet ch ucd) = Unit {0}
KnowsTold rows (outputs.Assigned modem ch sid first last) = IsLatest rows ch sid modem first last
KnowsTold rows (outputs.Map ch start len bytes) = Unit {0}
KnowsTold rows (outputs.Refused number) = Unit {0}

step_knows : (rows : Rows) (c : Command) → AllLeadBack rows → KnowsTold (step rows c).rows (step rows c).output
step_knows rows c good = by (refusal_of rows c) refl
  where
    cut_knows : (o : Option Table) (at : ℕ) (asks : CutSettings) → KnowsTold (cut_on o rows at asks).rows (cut_on o rows at asks).output
    cut_knows (Some t) at asks = tt
    cut_knows None at asks = tt

    on : (c : Command) → refusal_of rows c ≡ None → KnowsTold (accepted rows c).rows (accepted rows c).output
    on commands.Noop ok = tt
    on (commands.Channel n) ok = tt
    on (commands.Change at s) ok = tt
    on (commands.Flow at modem tag last kind) ok =
        let f = flow_step_is rows at modem tag last kind ok in
        subst (λ (l : Lease). IsLatest (with_flow rows at modem tag last kind) at l.sid modem l.first l.last) (sym f.gives)
        (record { table = flow_in_table f.table modem tag last kind; found = f.after; holds = gives_latest (lease_of f.table modem tag) f.table modem tag last kind refl (good at f.table f.found) })
    on (commands.Drop at s) ok = tt
    on (commands.Request at s n sent) ok = tt
    on (commands.Cut at len not_before ack keep ranging sending) ok = cut_knows (table_of rows at) at (cut_settings len not_before ack keep ranging sending)

    by : (o : Option Refusal) → refusal_of rows c ≡ o → KnowsTold (step_on o rows c).rows (step_on o rows c).output
    by (Some r) h = tt
    by None h = on c h

-- the lease that an output tells is its SID's latest
pub step_gives : (rows : Rows) (c : Command) (m ch sid since until : ℕ) → AllLeadBack rows → (step rows c).output ≡ outputs.Assigned m ch sid since until → IsLatest (step rows c).rows ch sid m since until
step_gives rows c m ch sid since until good e = subst (KnowsTold (step rows c).rows) e (step_knows rows c good)

-- ---- two leases of a SID

-- a lease that was told is the latest one, or has ended before that begins
one_lease : (rows : Rows) (ch sid m first last n since until x : ℕ) → IsTold rows ch sid m first last → IsLatest rows ch sid n since until
    → InLease first last x → InLease since until x → (m ≡ n) × (first ≡ since) × (last ≡ until)
one_lease rows ch sid m first last n since until x p q a b =
    let same : p.table ≡ q.table = some_is p.table q.table (sym p.found ∙ q.found) in
    let found : find (is_of_sid sid) p.table.leases ≡ Some q.holds.lease = ap (λ (t : Table). find (is_of_sid sid) t.leases) same ∙ q.holds.found in
    let is : p.holds.lease ≡ q.holds.lease = by p.holds.lease q.holds.lease (sym p.holds.found ∙ found) in
    let begins : p.holds.lease.first ≡ since = ap (λ (l : Lease). l.first) is ∙ q.holds.first_is in
    let ends : p.holds.lease.last ≡ until = ap (λ (l : Lease). l.last) is ∙ q.holds.last_is in
    let modem : p.holds.lease.modem ≡ n = ap (λ (l : Lease). l.modem) is ∙ q.holds.modem_is in
    elim p.holds.is [
      | inl own ↦ (sym own.0 ∙ modem, sym own.1 ∙ begins, sym own.2 ∙ ends)
      | inr past ↦ absurd (let behind : last < p.holds.lease.first = past.0 in let to : x ≤ last = a.1 in let from : since ≤ x = b.0 in omega arith)
    ]
  where
    by : (k l : Lease) → Some k ≡ Some l → k ≡ l
    by k l e = cc

-- ---- over a list of commands

later_same : (rows : Rows) (cs : List Command) (k ch sid m first last n since until x : ℕ) → AllLeadBack rows → IsTold rows ch sid m first last → slice_get (outputs_from rows cs) k ≡ Some (outputs.Assigned n ch sid since until)
    → InLease first last x → InLease since until x → (m ≡ n) × (first ≡ since) × (last ≡ until)
later_same rows [] k ch sid m first last n since until x good o e a b = absurd cc
later_same rows (c ∷ cs) zero ch sid m first last n since until x good o e a b =
    one_lease (step rows c).rows ch sid m first last n since until x (told_step rows c ch sid m first last o) (step_gives rows c n ch sid since until good (same_Some _ _ e)) a b
later_same rows (c ∷ cs) (suc k) ch sid m first last n since until x good o e a b =
    later_same (step rows c).rows cs k ch sid m first last n since until x (back_step rows c good) (told_step rows c ch sid m first last o) e a b

shared : (rows : Rows) (cs : List Command) (j k m n ch sid first last since until x : ℕ) → AllLeadBack rows
    → slice_get (outputs_from rows cs) j ≡ Some (outputs.Assigned m ch sid first last) → slice_get (outputs_from rows cs) k ≡ Some (outputs.Assigned n ch sid since until)
    → InLease first last x → InLease since until x → (m ≡ n) × (first ≡ since) × (last ≡ until)
shared rows [] j k m n ch sid first last since until x good d e a b = absurd cc
shared rows (c ∷ cs) zero zero m n ch sid first last since until x good d e a b =
    one_lease (step rows c).rows ch sid m first last n since until x (now_told _ ch sid m first last (step_gives rows c m ch sid first last good (same_Some _ _ d))) (step_gives rows c n ch sid since until good (same_Some _ _ e)) a b
shared rows (c ∷ cs) zero (suc k) m n ch sid first last since until x good d e a b =
    later_same (step rows c).rows cs k ch sid m first last n since until x (back_step rows c good) (now_told _ ch sid m first last (step_gives rows c m ch sid first last good (same_Some _ _ d))) e a b
shared rows (c ∷ cs) (suc j) zero m n ch sid first last since until x good d e a b =
    let same = later_same (step rows c).rows cs j ch sid n since until m first last x (back_step rows c good) (now_told _ ch sid n since until (step_gives rows c n ch sid since until good (same_Some _ _ e))) d b a in
    (sym same.0, sym same.1, sym same.2)
shared rows (c ∷ cs) (suc j) (suc k) m n ch sid first last since until x good d e a b =
    shared (step rows c).rows cs j k m n ch sid first last since until x (back_step rows c good) d e a b

-- the leases of one SID of a channel share no minislot
pub leases_are_apart : LeasesAreApart
leases_are_apart cs j k modem modem' ch sid first last first' last' m d e a b = shared [] cs j k modem modem' ch sid first last first' last' m (λ c t f. absurd cc) d e a b
