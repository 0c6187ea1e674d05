-- Each grant lies within the lease of a flow that was added, and what isn't granted to a request is at a due time of it.
use Rattle.std.proofs.Common.{◌≡◌, ◌⊎◌, ℕ, zero, suc, ◌<◌, ◌≤◌, true, false, cond, not, List, [], ◌∷◌, Option, Some}
use Rattle.std.proofs.Common.{None, refl, sym, ap, subst, ◌∙◌, arith, inl, inr, slice_get}
use Rattle.std.specs.List.{find}
use Rattle.std.proofs.lemmas.Bool.{eqb-true}
use Rattle.std.specs.Prelude.{unwrap_or}
use Rattle.std.proofs.lemmas.Option.{same_Some}
use Rattle.minislot_time.specs.Extent.{Extent}
use Rattle.flow_state.specs.declared.channel.Channel.{Channel}
use Rattle.flow_state.specs.declared.flow.FlowKind.{FlowKind}
use Rattle.flow_state.specs.declared.refusal.Refusal.{Refusal}
use Rattle.flow_state.specs.declared.flow.Lease.{Lease}
use Rattle.flow_state.specs.Rows.{Rows, Table, FlowRow, is_flow, is_of_sid, table_of, lease_of, free_sid, first_of}
use Rattle.flow_state.specs.Rows.{lease_in}
use Rattle.flow_state.specs.Refusals.{table_flow_refusal}
use Rattle.flow_state.specs.Changes.{new_lease, new_flow, lease_among, lease_on, flow_among}
use Rattle.grant_machine.specs.declared.command.Command.{Command}
use Rattle.grant_machine.specs.declared.command.Command.TheVariants as commands
use Rattle.grant_machine.specs.declared.output.Output.{Output}
use Rattle.grant_machine.specs.declared.output.Output.TheVariants as outputs
use Rattle.grant_machine_parts.specs.declared.placing.Cause.{Cause}
use Rattle.grant_machine_parts.specs.declared.placing.Placement.{Placement}
use Rattle.grant_machine_parts.specs.declared.placing.Cause.TheVariants.{Window, Sent}
use Rattle.grant_machine_parts.specs.declared.due_times.Periodic.{Periodic}
use Rattle.grant_machine_parts.specs.declared.settings.CutSettings.{CutSettings}
use Rattle.grant_machine_parts.specs.Cutting.{grant_iuc, unsolicited_iuc, Filled, fill, fill_refusal, span_of}
use Rattle.grant_machine.specs.Steps.{cut_settings, step, step_on, accepted, lease_output}
use Rattle.grant_machine.specs.Runs.{outputs_from, outputs_of, grants_from, grants_of, Grant, grant_of, step_grants}
use Rattle.grant_machine.specs.Laws.{LeasedSid, IsWithin, IsServedAt, IsDueUseOf, IsOfFlow, OtherGrantsAreDue}
use Rattle.grant_machine.specs.Laws.{GrantsAreLeased}
use Rattle.flow_state.proofs.Callers.{Has, at_contains, has_at, has_either, has_map, has_filter, found_has}
use Rattle.flow_state.proofs.Callers.{some_is}
use Rattle.flow_state.proofs.Callers.{IsWell, has_inserted, asked, one_flow, flow_lease}
use Rattle.grant_machine_parts.proofs.Callers.{IsLeased, IsFor, cut_placed, is_cut, Becomes, flow_from}
use Rattle.grant_machine.proofs.Leases.{IsNew, is_new, AllLeadBack, IsTold, now_told, back_step, told_step, step_gives}
use Rattle.grant_machine.proofs.Turns.{made, Changes, before}
use Rattle.grant_machine.proofs.Reached.{AllWell, none_well, well_step}
use Rattle.grant_machine.proofs.Cuts.{cut_of_grant}

-- ---- the flow of a grant

-- the lease of a channel's flow
abbrev pub lease_at : ℕ → FlowRow → LeasedSid
lease_at ch f = record { channel = ch; sid = f.sid; first = f.first; last = f.last }

-- a flow of this kind under the lease is of a table's, but for its due time and last request
pub record IsFlowOf (rows : Rows) (lease : LeasedSid) (kind : FlowKind) : Type 0 where
  pub table : Table
  pub found : table_of rows lease.channel ≡ Some table
  pub flow : FlowRow
  pub there : Has table.flows flow
  pub lease_is : lease_at lease.channel flow ≡ lease
  pub kind_is : flow.kind ≡ kind

-- the grant is at the due time that it serves, if it serves one
abbrev IsServedBy : FlowKind → Grant → Cause → Type 0
IsServedBy kind g (Sent s) = Unit {0}
IsServedBy kind g (Window i) = IsServedAt kind g i

-- the use of a grant of this size, by what it serves: a request, or a flow of this kind
abbrev pub IsUseBy : Channel → FlowKind → (size iuc : ℕ) → Cause → Type 0
IsUseBy c kind size iuc (Sent s) = iuc ≡ grant_iuc c size
IsUseBy c kind size iuc (Window i) = IsDueUseOf c kind size iuc

-- a grant in a step: the flow under whose lease it is, its use, and where it comes of itself, of which due time
pub record IsGrantOf (rows : Rows) (c : Channel) (iuc : ℕ) (g : Grant) : Type 0 where
  pub kind : FlowKind
  pub lease : LeasedSid
  pub flow : IsFlowOf rows lease kind
  pub within : IsWithin lease g
  pub served : IsServedBy kind g g.cause
  pub use_is : IsUseBy c kind g.size iuc g.cause

-- what a placement serves is of the flow in whose lease it lies
serves_flow : (t : Table) (span : Extent) (ch : ℕ) (f : FlowRow) (q : Placement) (cause : Cause) → IsWell t → Has t.flows f → f.sid ≡ q.sid → IsFor t span q cause
    → IsUseBy t.row.channel f.kind q.size q.iuc cause × IsServedBy f.kind (grant_of ch span.start q) cause
serves_flow t span ch f q (Sent s) w h same serves = (serves.5, tt)
serves_flow t span ch f q (Window i) w h same due =
    let c : Channel = t.row.channel in
    let p : Periodic = due.periodic in
    let IsServing : FlowKind → Type 0 = λ kind. IsDueUseOf c kind q.size q.iuc × IsServedAt kind (grant_of ch span.start q) i in
    subst (λ (x : FlowRow). IsServing x.kind) (one_flow 1 t.flows due.flow f w.rising due.there h (due.sid ∙ sym same)) (elim due.of.is [
      | inl (kind, iuc) ↦ subst IsServing (sym kind) (due.iuc ∙ iuc ∙ ap (unsolicited_iuc c) (sym due.size), record { whole = due.size; not_early = due.not_early; not_late = due.not_late })
      | inr (inl (kind, one, iuc)) ↦ subst IsServing (sym kind) (due.iuc ∙ iuc, record { whole = due.size ∙ one; not_early = due.not_early; not_late = due.not_late })
      | inr (inr (inl (kind, iuc))) ↦ subst IsServing (sym kind) (due.iuc ∙ iuc, record { whole = due.size; not_early = due.not_early; not_late = due.not_late })
      | inr (inr (inr (kind, iuc))) ↦ subst IsServing (sym kind) (due.iuc ∙ iuc, record { whole = due.size; not_early = due.not_early; not_late = due.not_late })
    ])

grant_by : (rows : Rows) (ch : ℕ) (t : Table) (span : Extent) (q : Placement) → table_of rows ch ≡ Some t → IsWell t → t.row.next_start ≤ span.start → IsLeased t span q → IsFor t span q q.cause → IsGrantOf rows t.row.channel q.iuc (grant_of ch span.start q)
grant_by rows ch t span q found w begun (f, there, sid, ended) serves =
    let first : f.first ≤ t.row.next_start = (w.leases (lease_in f) (flow_lease t f (w.given f there))).begun in
    let (use_is, served) = serves_flow t span ch f q q.cause w there sid serves in
    record {
      kind = f.kind;
      lease = lease_at ch f;
      flow = record { table = t; found = found; flow = f; there = there; lease_is = refl; kind_is = refl };
      within = record { channel = refl; sid_is = sym sid; begun = omega arith; ended = ended };
      served = served;
      use_is = use_is;
    }

-- a placement of a cut
pub grant_at : (rows : Rows) (ch : ℕ) (asks : CutSettings) (t : Table) (p : Placement) → table_of rows ch ≡ Some t → IsWell t → fill_refusal t.row asks ≡ None
    → Has (fill t asks).placements p → IsGrantOf rows t.row.channel p.iuc (grant_of ch (fill t asks).span.start p)
grant_at rows ch asks t p found well ok h =
    let placed = (cut_placed t asks well ok).each p h in
    grant_by rows ch t (span_of t.row asks.len asks.not_before) p found well (omega arith) placed.leased placed.serves

-- a grant of a command that is a cut
grant_now : (rows : Rows) (c : Command) (g : Grant) → AllWell rows → Has (step_grants rows c) g → (channel : Channel) × (iuc : ℕ) × IsGrantOf rows channel iuc g
grant_now rows c g w h =
    let s = cut_of_grant rows c g h in
    let cut = s.cut in
    let given = grant_at rows g.channel cut.settings cut.table s.placement cut.found (w g.channel cut.table cut.found) cut.ok s.there in
    (cut.table.row.channel, s.placement.iuc, subst (IsGrantOf rows cut.table.row.channel s.placement.iuc) s.is given)

-- ---- where a flow comes from

-- an accepted command adds the flow, under a lease that wasn't told
pub record Adds (rows : Rows) (c : Command) (lease : LeasedSid) (kind : FlowKind) : Type 0 where
  pub modem : ℕ
  pub tag : ℕ
  pub asked : c ≡ commands.Flow lease.channel modem tag lease.last kind
  pub gives : (accepted rows c).output ≡ outputs.Assigned modem lease.channel lease.sid lease.first lease.last
  pub fresh : (m : ℕ) → IsTold rows lease.channel lease.sid m lease.first lease.last → ⊥

same_flow : (rows : Rows) (ch : ℕ) (t : Table) (f : FlowRow) → table_of rows ch ≡ Some t → Has t.flows f → IsFlowOf rows (lease_at ch f) f.kind
same_flow rows ch t f found there = record { table = t; found = found; flow = f; there = there; lease_is = refl; kind_is = refl }

-- a flow that goes on from the one that it was
like_flow : (rows : Rows) (ch : ℕ) (t : Table) (f g : FlowRow) → table_of rows ch ≡ Some t → Has t.flows f → Becomes f g → IsFlowOf rows (lease_at ch g) g.kind
like_flow rows ch t f g found there is = record { table = t; found = found; flow = f; there = there; lease_is = rw (is.sid, is.first, is.last) refl; kind_is = sym is.kind }

asked_flow : (rows : Rows) (ch : ℕ) (t : Table) (at next : ℕ) (f : FlowRow) → IsFlowOf rows (lease_at ch f) f.kind → IsFlowOf rows (lease_at ch (asked at next f)) (asked at next f).kind
asked_flow rows ch t at next f is = elim (is_flow at f) as (λ b. let g : FlowRow = cond b (record f { last_sent = Some next }) f in IsFlowOf rows (lease_at ch g) g.kind) [ true ↦ is | false ↦ is ]

-- a new lease isn't one that was told
new_lease_fresh : (rows : Rows) (t : Table) (ch sid first last : ℕ) → table_of rows ch ≡ Some t → IsNew t sid last → (m : ℕ) → IsTold rows ch sid m first last → ⊥
new_lease_fresh rows t ch sid first last found new m told =
    let same : told.table ≡ t = some_is told.table t (sym told.found ∙ found) in
    let there : find (is_of_sid sid) t.leases ≡ Some told.holds.lease = ap (λ (u : Table). find (is_of_sid sid) u.leases) (sym same) ∙ told.holds.found in
    let had = found_has (is_of_sid sid) t.leases told.holds.lease there in
    let over : told.holds.lease.last < t.row.next_start = (new.over told.holds.lease had.0 (eqb-true _ _ had.1)).0 in
    let on : t.row.next_start ≤ last = new.goes_on in
    let start : told.table.row.next_start ≡ t.row.next_start = ap (λ (u : Table). u.row.next_start) same in
    elim told.holds.is [
      | inl is ↦ (let last_is : told.holds.lease.last ≡ last = is.2 in omega arith)
      | inr is ↦ (let past : last < told.table.row.next_start = is.1 in omega arith)
    ]

flow_added : (o : Option Lease) (rows : Rows) (t : Table) (ch modem tag last : ℕ) (kind : FlowKind) (f : FlowRow) → table_of rows ch ≡ Some t → lease_of t modem tag ≡ o → table_flow_refusal t modem tag last kind ≡ None
    → Has (flow_among o t modem tag last kind).flows f → IsFlowOf rows (lease_at ch f) f.kind ⊎ Adds rows (commands.Flow ch modem tag last kind) (lease_at ch f) f.kind
flow_added (Some a) rows t ch modem tag last kind f found e ok h = inl (same_flow rows ch t f found h)
flow_added None rows t ch modem tag last kind f found e ok h =
    let sid : ℕ = unwrap_or (free_sid t) 0 in
    let lease : Lease = new_lease t modem tag last sid in
    elim (has_inserted (new_flow lease kind) t.flows f h) [
      | inl old ↦ inl (same_flow rows ch t f found old)
      | inr new ↦ inr (subst (λ (g : FlowRow). Adds rows (commands.Flow ch modem tag last kind) (lease_at ch g) g.kind) new (record {
        modem = modem;
        tag = tag;
        asked = refl;
        gives = ap (lease_output modem ch) (ap (λ o. lease_on o modem tag last) found ∙ ap (λ o. lease_among o t modem tag last) e);
        fresh = new_lease_fresh rows t ch sid (first_of t sid) last found (is_new t modem tag last kind e ok);
      }))
    ]

made_flow : (rows : Rows) (c : Command) (ch : ℕ) (t : Table) (f : FlowRow) → table_of rows ch ≡ Some t → Changes c ch t → Has (made c t).flows f → IsFlowOf rows (lease_at ch f) f.kind ⊎ Adds rows c (lease_at ch f) f.kind
made_flow rows commands.Noop ch t f found e h = absurd e
made_flow rows (commands.Channel c) ch t f found e h = absurd e
made_flow rows (commands.Change at s) ch t f found e h = inl (same_flow rows ch t f found h)
made_flow rows (commands.Flow at modem tag last kind) ch t f found e h =
    subst (λ n. IsFlowOf rows (lease_at ch f) f.kind ⊎ Adds rows (commands.Flow n modem tag last kind) (lease_at ch f) f.kind) (sym e.0)
    (flow_added (lease_of t modem tag) rows t ch modem tag last kind f found refl e.1 h)
made_flow rows (commands.Drop at sid) ch t f found e h = inl (same_flow rows ch t f found (has_filter (λ g. not (is_flow sid g)) t.flows f h).0)
made_flow rows (commands.Request at sid n sent) ch t f found e h =
    let m = has_map (asked sid sent) t.flows f h in
    inl (subst (λ (g : FlowRow). IsFlowOf rows (lease_at ch g) g.kind) m.2 (asked_flow rows ch t sid sent m.0 (same_flow rows ch t m.0 found m.1)))
made_flow rows (commands.Cut at len not_before ack keep ranging sending) ch t f found e h =
    let asks : CutSettings = cut_settings len not_before ack keep ranging sending in
    let filled : Filled = fill t asks in
    let m = flow_from t filled.span asks f (is_cut t asks e.1).end h in
    inl (like_flow rows ch t m.0 f found m.1 m.2)

-- ---- over a list of commands

-- the command of this number adds the flow under its lease, which isn't told before
pub record AddedLater (rows : Rows) (cs : List Command) (lease : LeasedSid) (kind : FlowKind) : Type 0 where
  pub place : ℕ
  pub modem : ℕ
  pub tag : ℕ
  pub asked : slice_get cs place ≡ Some (commands.Flow lease.channel modem tag lease.last kind)
  pub added : slice_get (outputs_from rows cs) place ≡ Some (outputs.Assigned modem lease.channel lease.sid lease.first lease.last)
  pub new : (j other : ℕ) → j < place → ¬ (slice_get (outputs_from rows cs) j ≡ Some (outputs.Assigned other lease.channel lease.sid lease.first lease.last))
  pub fresh : (m : ℕ) → IsTold rows lease.channel lease.sid m lease.first lease.last → ⊥

added_back : (rows : Rows) (c : Command) (cs : List Command) (lease : LeasedSid) (kind : FlowKind) → AllLeadBack rows → AddedLater (step rows c).rows cs lease kind → AddedLater rows (c ∷ cs) lease kind
added_back rows c cs lease kind good a = record {
  place = suc a.place;
  modem = a.modem;
  tag = a.tag;
  asked = a.asked;
  added = a.added;
  new = λ j other lt e. by j other lt e;
  fresh = λ m told. a.fresh m (told_step rows c lease.channel lease.sid m lease.first lease.last told);
}
  where
    by : (j other : ℕ) → j < suc a.place → slice_get (outputs_from rows (c ∷ cs)) j ≡ Some (outputs.Assigned other lease.channel lease.sid lease.first lease.last) → ⊥
    by zero other lt e = a.fresh other (now_told _ lease.channel lease.sid other lease.first lease.last (step_gives rows c other lease.channel lease.sid lease.first lease.last good (same_Some _ _ e)))
    by (suc j) other lt e = a.new j other (omega arith) e

-- a flow after a step was there before, or the step adds it
flow_step : (rows : Rows) (c : Command) (cs : List Command) (lease : LeasedSid) (kind : FlowKind) → IsFlowOf (step rows c).rows lease kind → IsFlowOf rows lease kind ⊎ AddedLater rows (c ∷ cs) lease kind
flow_step rows c cs lease kind f =
    subst (λ (k : FlowKind). IsFlowOf rows lease k ⊎ AddedLater rows (c ∷ cs) lease k) f.kind_is
    (subst (λ (l : LeasedSid). IsFlowOf rows l f.flow.kind ⊎ AddedLater rows (c ∷ cs) l f.flow.kind) f.lease_is (elim (before rows c lease.channel f.table f.found) [
      | inl old ↦ inl (same_flow rows lease.channel f.table f.flow old f.there)
      | inr (inl set) ↦ absurd (subst (λ (v : Table). Has v.flows f.flow) (sym set.is) f.there)
      | inr (inr (t, found, makes)) ↦ elim (made_flow rows c lease.channel t f.flow found makes.changes (subst (λ (v : Table). Has v.flows f.flow) (sym makes.is) f.there)) [
        | inl old ↦ inl old
        | inr adds ↦ inr (record {
          place = 0;
          modem = adds.modem;
          tag = adds.tag;
          asked = ap (λ (d : Command). Some d) adds.asked;
          added = ap (λ (o : Option Refusal). Some (step_on o rows c).output) makes.ok ∙ ap (λ (o : Output). Some o) adds.gives;
          new = λ j other lt. absurd (omega arith);
          fresh = adds.fresh;
        })
      ]
    ]))

-- the flow of a grant is of the rows, or is added later
pub record IsServed (rows : Rows) (cs : List Command) (g : Grant) (kind : FlowKind) : Type 0 where
  pub lease : LeasedSid
  pub within : IsWithin lease g
  pub served : IsServedBy kind g g.cause
  pub flow : IsFlowOf rows lease kind ⊎ AddedLater rows cs lease kind

pub served_now : (rows : Rows) (cs : List Command) (c : Channel) (iuc : ℕ) (g : Grant) (d : IsGrantOf rows c iuc g) → IsServed rows cs g d.kind
served_now rows cs c iuc g d = record { lease = d.lease; within = d.within; served = d.served; flow = inl d.flow }

pub served_later : (rows : Rows) (c : Command) (cs : List Command) (g : Grant) (kind : FlowKind) → AllLeadBack rows → IsServed (step rows c).rows cs g kind → IsServed rows (c ∷ cs) g kind
served_later rows c cs g kind good s = record {
  lease = s.lease;
  within = s.within;
  served = s.served;
  flow = elim s.flow [
    | inl flow ↦ flow_step rows c cs s.lease kind flow
    | inr added ↦ inr (added_back rows c cs s.lease kind good added)
  ];
}

served_from : (rows : Rows) (cs : List Command) (g : Grant) → AllWell rows → AllLeadBack rows → Has (grants_from rows cs) g → (kind : FlowKind) × IsServed rows cs g kind
served_from rows [] g w good h = absurd h
served_from rows (c ∷ cs) g w good h = elim (has_either (step_grants rows c) (grants_from (step rows c).rows cs) g h) [
  | inl now ↦ let d = grant_now rows c g w now in (d.2.kind, served_now rows (c ∷ cs) d.0 d.1 g d.2)
  | inr later ↦
      let s = served_from (step rows c).rows cs g (well_step rows c w) (back_step rows c good) later in
      (s.0, served_later rows c cs g s.0 good s.1)
]

-- a grant of a list of commands, and the command that added its flow
pub record IsGranted (cs : List Command) (g : Grant) (kind : FlowKind) : Type 0 where
  pub lease : LeasedSid
  pub within : IsWithin lease g
  pub served : IsServedBy kind g g.cause
  pub flow : AddedLater [] cs lease kind

-- a table that no command set has no flow
pub granted_by : (cs : List Command) (g : Grant) (kind : FlowKind) → IsServed [] cs g kind → IsGranted cs g kind
granted_by cs g kind s = record {
  lease = s.lease;
  within = s.within;
  served = s.served;
  flow = elim s.flow [ inl flow ↦ absurd (let found = flow.found in cc) | inr a ↦ a ];
}

granted : (cs : List Command) (k : ℕ) (g : Grant) → slice_get (grants_of cs) k ≡ Some g → (kind : FlowKind) × IsGranted cs g kind
granted cs k g at =
    let s = served_from [] cs g none_well (λ ch t e. absurd cc) (has_at (grants_from [] cs) k g at) in
    (s.0, granted_by cs g s.0 s.1)

-- the flow of a grant at a due time
abbrev pub flow_of_grant : (cs : List Command) (i : ℕ) (g : Grant) (kind : FlowKind) → IsGranted cs g kind → g.cause ≡ Window i → IsOfFlow cs g i
flow_of_grant cs i g kind s cause = record {
  place = s.flow.place;
  lease = s.lease;
  kind = kind;
  added = record { modem = s.flow.modem; tag = s.flow.tag; asked = s.flow.asked; added = s.flow.added; new = s.flow.new };
  within = s.within;
  served = subst (IsServedBy kind g) cause s.served;
}

-- what isn't granted to a request is granted at a due time
pub other_grants_are_due : OtherGrantsAreDue
other_grants_are_due cs k i g at cause = let s = granted cs k g at in flow_of_grant cs i g s.0 s.1 cause

-- each grant lies within a lease that was told
pub grants_are_leased : GrantsAreLeased
grants_are_leased cs k g at =
    let (kind, s) = granted cs k g at in
    let a = s.flow in
    (s.lease, a.modem, s.within, at_contains (outputs_of cs) a.place (outputs.Assigned a.modem s.lease.channel s.lease.sid s.lease.first s.lease.last) a.added)
