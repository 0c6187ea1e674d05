-- Each grant is told by the MAP that placed it, and a SID's minislots are in its grants.
use Rattle.std.proofs.Common.{◌≡◌, ◌≢◌, ◌⊎◌, ℕ, zero, suc, ◌+◌, ◌-◌, ◌<◌, ◌≤◌, ◌^◌, Bool, true, false, cond, eqb, List}
use Rattle.std.proofs.Common.{[], ◌∷◌, ◌++◌, map, Some, None, refl, sym, ap, subst, ◌∙◌, arith, inl, inr, slice_get}
use Rattle.std.proofs.lemmas.Option.{same_Some}
use Rattle.std.specs.List.{AllByRecursion}
use Rattle.map_body.specs.declared.element.Element.{Element}
use Rattle.map_body.specs.declared.head.Head.{Head}
use Rattle.map_body.specs.Body.{Body}
use Rattle.map_body.specs.Layout.{FitsHead, head_bytes, IsBody, IsWritten}
use Rattle.map_body.specs.Cell.{IsCell}
use Rattle.map_body.proofs.Callers.{one_body}
use Rattle.map_body.specs.Sids.{everybody}
use Rattle.std.specs.Prelude.{take}
use Rattle.std.specs.Option.{option_map}
use Rattle.flow_state.specs.declared.channel.Channel.{Channel}
use Rattle.flow_state.specs.declared.channel.ChannelRow.{ChannelRow}
use Rattle.flow_state.specs.declared.flow.FlowKind.{FlowKind}
use Rattle.flow_state.specs.declared.flow.FlowKind.TheVariants.{BestEffort, Ugs, Poll, Station, Initial}
use Rattle.flow_state.specs.Limits.{last_sid}
use Rattle.flow_state.specs.Rows.{Rows, Table, table_of, channel_at}
use Rattle.grant_machine.specs.declared.command.Command.{Command}
use Rattle.grant_machine.specs.declared.output.Output.{Output}
use Rattle.grant_machine.specs.declared.output.Output.TheVariants as outputs
use Rattle.grant_machine_parts.specs.declared.placing.Placement.{Placement}
use Rattle.grant_machine_parts.specs.Placing.{holds, holder}
use Rattle.grant_machine_parts.specs.declared.settings.CutSettings.{CutSettings}
use Rattle.grant_machine_parts.specs.Cutting.{Filled, fill, fill_refusal}
use Rattle.grant_machine_parts.specs.Drawing.{told_sid, placed_element, body_of, bytes_of}
use Rattle.grant_machine.specs.Steps.{step, map_output}
use Rattle.grant_machine.specs.Runs.{outputs_from, rows_from, grants_from, Grant, grant_of, step_grants}
use Rattle.grant_machine.specs.Fits.{FitsCommand}
use Rattle.grant_machine_parts.specs.declared.placing.Cause.{Cause}
use Rattle.grant_machine_parts.specs.declared.placing.Cause.TheVariants.{Window, Sent}
use Rattle.grant_machine.specs.Laws.{IsUseOf, IsDueUseOf, GrantsAreTold, CellsAreGranted}
use Rattle.grant_machine.specs.Maintenance.{IsStation, IsInitial, IsOfKind, MaintenanceIsTold}
use Rattle.flow_state.proofs.Callers.{Has, has_at, place_of, has_left, has_right, has_either, has_map, map_has, unfound}
use Rattle.flow_state.proofs.Callers.{IsWell}
use Rattle.grant_machine_parts.proofs.Callers.{it_holds, holds_from, holds_below, cell_of_placement, cell_tells}
use Rattle.grant_machine_parts.proofs.Callers.{requested_high, unsolicited_high, pending, cut_placed, cut_most}
use Rattle.grant_machine_parts.proofs.Callers.{pending_plain, cut_written}
use Rattle.grant_machine.proofs.Reached.{AllWell, none_well, well_step, AllFit, none_fit, fit_step}
use Rattle.grant_machine.proofs.Cuts.{IsMapStep, cut_of_grant, cut_of_map}
use Rattle.grant_machine.proofs.Maps.{IsPast, step_tells, later_begins, later_granted, grant_ends}
use Rattle.grant_machine.proofs.Leases.{AllLeadBack, back_step}
use Rattle.grant_machine.proofs.Timely.{IsUseBy, IsServed, IsGranted, grant_at, served_now, served_later, granted_by}
use Rattle.grant_machine.proofs.Timely.{flow_of_grant}

module _ where
  -- ---- each grant is told

  -- the grant is told by a MAP among the outputs from these rows
  pub record IsToldFrom (rows : Rows) (cs : List Command) (g : Grant) : Type 0 where
    pub place : ℕ
    pub start : ℕ
    pub len : ℕ
    pub bytes : List ℕ
    pub map : Body
    pub told : slice_get (outputs_from rows cs) place ≡ Some (outputs.Map g.channel start len bytes)
    pub body : IsWritten bytes map
    pub begun : start ≤ g.start
    pub ended : g.start + g.size ≤ start + len
    pub row : ChannelRow
    pub stood : channel_at (rows_from rows (take place cs)) g.channel ≡ Some row
    pub iuc : ℕ
    pub kind : FlowKind
    pub serves : IsServed rows cs g kind
    pub use_is : IsUseBy row.channel kind g.size iuc g.cause
    pub cell : (m : ℕ) → g.start ≤ m → m < g.start + g.size → IsCell map (m - start) (record { sid = told_sid g.sid iuc; iuc = iuc; offset = g.start - start })

  -- a MAP tells of its grants
  told_by : (rows : Rows) (cs : List Command) (ch : ℕ) (asks : CutSettings) (t : Table) (p : Placement) → IsWell t → t.row.channel.id < 2 ^ 8 → t.row.channel.ucd < 2 ^ 8 → fill_refusal t.row asks ≡ None
      → table_of rows ch ≡ Some t
      → Has (fill t asks).placements p → slice_get (outputs_from rows cs) 0 ≡ Some (map_output ch t (fill t asks)) → IsToldFrom rows cs (grant_of ch (fill t asks).span.start p)
  told_by rows cs ch asks t p w id ucd ok found h out =
      let f : Filled = fill t asks in
      let a = cut_placed t asks w ok in
      let within = (a.each p h).within in
      let given = grant_at rows ch asks t p found w ok h in
      record {
        place = 0;
        start = f.span.start;
        len = asks.len;
        bytes = bytes_of t f;
        map = body_of t f;
        told = out;
        body = cut_written t asks w ok id ucd;
        begun = omega arith;
        ended = omega arith;
        row = t.row;
        stood = ap (option_map (λ (u : Table). u.row)) found;
        iuc = p.iuc;
        kind = given.kind;
        serves = served_now rows cs t.row.channel p.iuc (grant_of ch f.span.start p) given;
        use_is = given.use_is;
        cell = λ m from below.
            let offset : f.span.start + p.offset - f.span.start ≡ p.offset = omega arith in
            subst (λ (x : ℕ). IsCell (body_of t f) (m - f.span.start) (record { sid = told_sid p.sid p.iuc; iuc = p.iuc; offset = x })) (sym offset)
            (cell_of_placement t f.span f.placements a asks.len refl (cut_most t asks w ok) (pending t asks w ok) (pending_plain t asks w ok) (body_of t f) (m - f.span.start) p refl h
            (it_holds (m - f.span.start) p (omega arith) (omega arith)));
      }

  told_later : (rows : Rows) (c : Command) (cs : List Command) (g : Grant) → AllLeadBack rows → IsToldFrom (step rows c).rows cs g → IsToldFrom rows (c ∷ cs) g
  told_later rows c cs g good t = record { place = suc t.place; start = t.start; len = t.len; bytes = t.bytes; map = t.map; told = t.told; body = t.body; begun = t.begun; ended = t.ended; row = t.row; stood = t.stood; iuc = t.iuc; kind = t.kind; serves = served_later rows c cs g t.kind good t.serves; use_is = t.use_is; cell = t.cell }

  told_from : (rows : Rows) (cs : List Command) (g : Grant) → AllWell rows → AllLeadBack rows → AllFit rows → AllByRecursion FitsCommand cs → Has (grants_from rows cs) g → IsToldFrom rows cs g
  told_from rows [] g w good fits all h = absurd h
  told_from rows (c ∷ cs) g w good fits all h = elim (has_either (step_grants rows c) (grants_from (step rows c).rows cs) g h) [
    | inl now ↦
        let m = cut_of_grant rows c g now in
        let cut = m.cut in
        let t : Table = cut.table in
        let small = fits g.channel t cut.found in
        subst (IsToldFrom rows (c ∷ cs)) m.is
        (told_by rows (c ∷ cs) g.channel cut.settings t m.placement (w g.channel t cut.found) small.id small.ucd cut.ok cut.found m.there (ap (λ (o : Output). Some o) cut.output_is))
    | inr later ↦ told_later rows c cs g good (told_from (step rows c).rows cs g (well_step rows c w) (back_step rows c good) (fit_step rows c all.0 fits) all.1 later)
  ]

-- the use by what is served, with the flow that is
use_of : (cs : List Command) (c : Channel) (g : Grant) (iuc : ℕ) (kind : FlowKind) (served : IsGranted cs g kind) (cause : Cause) → g.cause ≡ cause → IsUseBy c kind g.size iuc cause → IsUseOf cs c g iuc cause
use_of cs c g iuc kind served (Sent time) e use_is = use_is
use_of cs c g iuc kind served (Window i) e use_is = (flow_of_grant cs i g kind served e, use_is)

-- each grant is told by the MAP that placed it
pub grants_are_told : GrantsAreTold
grants_are_told cs k g all at =
    let t = told_from [] cs g none_well (λ ch t e. absurd cc) none_fit all (has_at (grants_from [] cs) k g at) in
    record { place = t.place; start = t.start; len = t.len; bytes = t.bytes; map = t.map; told = t.told; body = t.body; begun = t.begun; ended = t.ended; row = t.row; stood = t.stood; iuc = t.iuc; use_is = use_of cs t.row.channel g t.iuc t.kind (granted_by cs g t.kind t.serves) g.cause refl t.use_is; cell = t.cell }

-- ---- whose a minislot is

-- where bytes are some body, a MAP with those bytes has fields that fit
head_fits : (g h : Head) (m n r s : ℕ) (xs ys : List ℕ) → FitsHead h → head_bytes g m r ++ xs ≡ head_bytes h n s ++ ys → (g.channel < 2 ^ 8) × (g.ucd < 2 ^ 8)
head_fits g h m n r s xs ys fits e =
    let channel : g.channel ≡ h.channel = cc in
    let ucd : g.ucd ≡ h.ucd = cc in
    let a = fits.channel in
    let b = fits.ucd in
    (omega arith, omega arith)

-- the body that a MAP's bytes are is the one that was drawn
pub drawn_body : (t : Table) (asks : CutSettings) (bytes : List ℕ) (map : Body) → IsWell t → fill_refusal t.row asks ≡ None → bytes_of t (fill t asks) ≡ bytes → IsBody bytes map
    → map ≡ body_of t (fill t asks)
drawn_body t asks bytes map w ok same b =
    let f : Filled = fill t asks in
    let fits = head_fits (body_of t f).head map.head _ _ 0 b.0 _ _ b.1.head_fits (same ∙ b.1.spelled) in
    let written = cut_written t asks w ok fits.0 fits.1 in
    one_body bytes map (body_of t f) b (subst (λ (bs : List ℕ). IsBody bs (body_of t f)) same (0, written.0, written.1))

-- a minislot that a MAP leaves free is everybody's, for requests
pub record IsFree (f : Filled) (x : ℕ) (e : Element) : Type 0 where
  pub all : e.sid ≡ everybody
  pub use_is : e.iuc ≡ 1
  pub free : holder f.placements x ≡ None

-- a cell of a MAP lies within it, and is a placement's that holds it, or free
pub record IsCutCell (t : Table) (asks : CutSettings) (x : ℕ) (e : Element) : Type 0 where
  pub within : x < asks.len
  pub whose : ((p : Placement) × Has (fill t asks).placements p × (holds x p ≡ true) × (placed_element p ≡ e)) ⊎ IsFree (fill t asks) x e

pub cut_cell : (t : Table) (asks : CutSettings) (x : ℕ) (map : Body) (e : Element) (w : IsWell t) (ok : fill_refusal t.row asks ≡ None) → map ≡ body_of t (fill t asks) → IsCell map x e → IsCutCell t asks x e
cut_cell t asks x map e w ok same c =
    let f : Filled = fill t asks in
    let a = cut_placed t asks w ok in
    let tells = cell_tells t f.span f.placements a asks.len refl (cut_most t asks w ok) (pending t asks w ok) (pending_plain t asks w ok) map x e (ap (λ (b : Body). b.elements) same) c in
    record { within = tells.within; whose = elim tells.whose [ inl p ↦ inl p | inr n ↦ inr (record { all = n.all; use_is = n.use_is; free = n.free }) ] }

-- the grant that a minislot is of, with the flow that it serves
pub record IsGivenBy (rows : Rows) (cs : List Command) (ch m : ℕ) (e : Element) : Type 0 where
  pub grant : Grant
  pub there : Has (grants_from rows cs) grant
  pub channel : grant.channel ≡ ch
  pub sid_is : told_sid grant.sid e.iuc ≡ e.sid
  pub unicast : grant.sid ≤ last_sid
  pub begun : grant.start ≤ m
  pub not_ended : m < grant.start + grant.size
  pub row : Channel
  pub kind : FlowKind
  pub serves : IsServed rows cs grant kind
  pub use_is : IsUseBy row kind grant.size e.iuc grant.cause

-- the minislot is everybody's for requests, and no grant of the channel holds it
pub record IsLeftFree (rows : Rows) (cs : List Command) (ch m : ℕ) (e : Element) : Type 0 where
  pub all : e.sid ≡ everybody
  pub use_is : e.iuc ≡ 1
  pub none : (g : Grant) → Has (grants_from rows cs) g → g.channel ≡ ch → g.start ≤ m → m < g.start + g.size → ⊥

-- a minislot from a MAP's start on, by its offset
at_least : (s start m offset : ℕ) → s ≡ start → start ≤ m → offset ≤ m - start → s + offset ≤ m
at_least s start m offset same from low = omega arith

below : (s start m offset size : ℕ) → s ≡ start → start ≤ m → m - start < offset + size → m < s + offset + size
below s start m offset size same from high = omega arith

-- a cell of the MAP that a step gives is of a grant of the step
granted_now : (rows : Rows) (c : Command) (cs : List Command) (ch start len m : ℕ) (bytes : List ℕ) (e : Element) (p : Placement) → AllWell rows → (s : IsMapStep rows c ch start len bytes)
    → start ≤ m → Has (fill s.cut.table s.cut.settings).placements p → holds (m - start) p ≡ true → placed_element p ≡ e → IsGivenBy rows (c ∷ cs) ch m e
granted_now rows c cs ch start len m bytes e p w s from there held is =
    let cut = s.cut in
    let t : Table = cut.table in
    let f : Filled = fill t cut.settings in
    let well = w ch t cut.found in
    let begins : f.span.start ≡ start = s.start_is in
    let low = holds_from (m - start) p held in
    let high = holds_below (m - start) p held in
    let grants : Has (step_grants rows c) (grant_of ch f.span.start p) = subst (λ (gs : List Grant). Has gs (grant_of ch f.span.start p)) (sym cut.grants_are) (map_has (grant_of ch f.span.start) f.placements p there) in
    let given = grant_at rows ch cut.settings t p cut.found well cut.ok there in
    let iuc_is : p.iuc ≡ e.iuc = ap (λ (d : Element). d.iuc) is in
    record {
      grant = grant_of ch f.span.start p;
      there = has_left (step_grants rows c) (grants_from (step rows c).rows cs) _ grants;
      channel = refl;
      sid_is = ap (told_sid p.sid) (sym iuc_is) ∙ ap (λ (d : Element). d.sid) is;
      unicast = ((cut_placed t cut.settings well cut.ok).each p there).last;
      begun = at_least f.span.start start m p.offset begins from low;
      not_ended = below f.span.start start m p.offset p.size begins from high;
      row = t.row.channel;
      kind = given.kind;
      serves = served_now rows (c ∷ cs) t.row.channel p.iuc (grant_of ch f.span.start p) given;
      use_is = subst (λ n. IsUseBy t.row.channel given.kind p.size n p.cause) iuc_is given.use_is;
    }

-- one that is left free is of no grant, of the step or later
free_now : (rows : Rows) (c : Command) (cs : List Command) (ch start len m : ℕ) (bytes : List ℕ) (e : Element) → (s : IsMapStep rows c ch start len bytes) → (step rows c).output ≡ outputs.Map ch start len bytes
    → start ≤ m → m - start < s.cut.settings.len → IsFree (fill s.cut.table s.cut.settings) (m - start) e → IsLeftFree rows (c ∷ cs) ch m e
free_now rows c cs ch start len m bytes e s out from within free = record {
  all = free.all;
  use_is = free.use_is;
  none = λ g h at begun not_ended. elim (has_either (step_grants rows c) (grants_from (step rows c).rows cs) g h) [
    | inl now ↦
        let f : Filled = fill s.cut.table s.cut.settings in
        let p = has_map (grant_of ch f.span.start) f.placements g (subst (λ (gs : List Grant). Has gs g) s.cut.grants_are now) in
        let begins : f.span.start ≡ start = s.start_is in
        let first : f.span.start + p.0.offset ≡ g.start = ap (λ (x : Grant). x.start) p.2 in
        let whole : p.0.size ≡ g.size = ap (λ (x : Grant). x.size) p.2 in
        let on : holds (m - start) p.0 ≡ true = it_holds (m - start) p.0 (low f.span.start start p.0.offset g.start begins first begun) (high f.span.start start p.0.offset p.0.size g.start g.size begins first whole begun not_ended) in
        let off : holds (m - start) p.0 ≡ false = unfound (holds (m - start)) f.placements p.0 free.free p.1 in
        cc
    | inr later ↦
        let reached = (step_tells rows c ch start len bytes out).reached in
        let after : start + len ≤ g.start = later_granted (step rows c).rows cs (start + len) g (subst (λ n. IsPast (step rows c).rows n (start + len)) (sym at) reached) later in
        let len_is : s.cut.settings.len ≡ len = s.len_is in
        absurd (omega arith)
  ];
}
  where
    low : (a start offset first : ℕ) → a ≡ start → a + offset ≡ first → first ≤ m → offset ≤ m - start
    low a start offset first same is le = omega arith

    high : (a start offset size first whole : ℕ) → a ≡ start → a + offset ≡ first → size ≡ whole → first ≤ m → m < first + whole → m - start < offset + size
    high a start offset size first whole same is all le lt = omega arith

given_now : (rows : Rows) (c : Command) (cs : List Command) (ch start len m : ℕ) (bytes : List ℕ) (map : Body) (e : Element) → AllWell rows → (step rows c).output ≡ outputs.Map ch start len bytes → IsBody bytes map
    → start ≤ m → IsCell map (m - start) e → IsGivenBy rows (c ∷ cs) ch m e ⊎ IsLeftFree rows (c ∷ cs) ch m e
given_now rows c cs ch start len m bytes map e w out b from cell =
    let s = cut_of_map rows c ch start len bytes out in
    let cut = s.cut in
    let well = w ch cut.table cut.found in
    let drawn = drawn_body cut.table cut.settings bytes map well cut.ok s.bytes_is b in
    let of = cut_cell cut.table cut.settings (m - start) map e well cut.ok drawn cell in
    elim of.whose [
      | inl (p, there, held, is) ↦ inl (granted_now rows c cs ch start len m bytes e p w s from there held is)
      | inr free ↦ inr (free_now rows c cs ch start len m bytes e s out from of.within free)
    ]

-- whose a minislot of a MAP of the outputs is
pub given_from : (rows : Rows) (cs : List Command) (k ch start len m : ℕ) (bytes : List ℕ) (map : Body) (e : Element) → AllWell rows → AllLeadBack rows → slice_get (outputs_from rows cs) k ≡ Some (outputs.Map ch start len bytes) → IsBody bytes map
    → start ≤ m → IsCell map (m - start) e → IsGivenBy rows cs ch m e ⊎ IsLeftFree rows cs ch m e
given_from rows [] k ch start len m bytes map e w good out b from cell = absurd cc
given_from rows (c ∷ cs) zero ch start len m bytes map e w good out b from cell = given_now rows c cs ch start len m bytes map e w (same_Some _ _ out) b from cell
given_from rows (c ∷ cs) (suc k) ch start len m bytes map e w good out b from cell = elim (given_from (step rows c).rows cs k ch start len m bytes map e (well_step rows c w) (back_step rows c good) out b from cell) [
  | inl later ↦ inl (record {
    grant = later.grant;
    there = has_right (step_grants rows c) (grants_from (step rows c).rows cs) later.grant later.there;
    channel = later.channel;
    sid_is = later.sid_is;
    unicast = later.unicast;
    begun = later.begun;
    not_ended = later.not_ended;
    row = later.row;
    kind = later.kind;
    serves = served_later rows c cs later.grant later.kind good later.serves;
    use_is = later.use_is;
  })
  | inr free ↦ inr (record {
    all = free.all;
    use_is = free.use_is;
    none = λ g h at begun not_ended. elim (has_either (step_grants rows c) (grants_from (step rows c).rows cs) g h) [
      | inl now ↦
          let ends = grant_ends rows c g w now in
          let before : g.start + g.size ≤ start = later_begins (step rows c).rows cs k ch (g.start + g.size) start len bytes (subst (λ n. IsPast (step rows c).rows n (g.start + g.size)) at ends) out in
          omega arith
      | inr more ↦ free.none g more at begun not_ended
    ];
  })
]

-- a SID that is told of a use that isn't everybody's is the grant's
own_sid : (sid iuc told : ℕ) → told_sid sid iuc ≡ told → told ≢ everybody → sid ≡ told
own_sid sid iuc told is not_all = by (eqb iuc 3) is
  where
    by : (b : Bool) → cond b everybody sid ≡ told → sid ≡ told
    by true e = absurd (not_all (sym e))
    by false e = e

-- what a MAP gives to one SID is part of a grant to it
pub cells_are_granted : CellsAreGranted
cells_are_granted cs k ch start len m bytes map e out b from cell not_all = elim (given_from [] cs k ch start len m bytes map e none_well (λ c t f. absurd cc) out b from cell) [
  | inl g ↦
      let at = place_of (grants_from [] cs) g.grant g.there in
      record { place = at.0; grant = g.grant; given = at.1; channel = g.channel; sid_is = own_sid g.grant.sid e.iuc e.sid g.sid_is not_all; begun = g.begun; not_ended = g.not_ended }
  | inr free ↦ absurd (not_all free.all)
]

-- ---- maintenance

module _ (cs : List Command) (ch m : ℕ) (e : Element) (g : IsGivenBy [] cs ch m e) where
  -- the grant at a due time, of a flow of such a kind
  of_kind : (i : ℕ) → g.grant.cause ≡ Window i → (IsWanted : FlowKind → Type 0) → IsWanted g.kind → (IsItsSid : ℕ → Type 0) → IsItsSid g.grant.sid → IsOfKind cs ch m IsWanted IsItsSid
  of_kind i cause IsWanted wanted IsItsSid its =
      let at = place_of (grants_from [] cs) g.grant g.there in
      record {
        place = at.0;
        grant = g.grant;
        held = record { given = at.1; channel = g.channel; begun = g.begun; not_ended = g.not_ended };
        number = i;
        cause = cause;
        served = flow_of_grant cs i g.grant g.kind (granted_by cs g.grant g.kind g.serves) cause;
        kind = wanted;
        sid_is = its;
      }

  of_station : e.iuc ≡ 4 → IsOfKind cs ch m IsStation (λ sid. sid ≡ e.sid)
  of_station iuc = by g.grant.cause refl g.use_is
    where
      sid : g.grant.sid ≡ e.sid
      sid = ap (told_sid g.grant.sid) (sym iuc) ∙ g.sid_is

      station : (kind : FlowKind) → IsDueUseOf g.row kind g.grant.size e.iuc → IsStation kind
      station (BestEffort priority) u = u
      station (Ugs size interval jitter base) u = absurd (let high = unsolicited_high g.row g.grant.size in omega arith)
      station (Poll interval jitter base) u = absurd (omega arith)
      station (Station size interval jitter base) u = tt
      station (Initial size interval jitter base) u = absurd (omega arith)

      by : (cause : Cause) → g.grant.cause ≡ cause → IsUseBy g.row g.kind g.grant.size e.iuc cause → IsOfKind cs ch m IsStation (λ sid. sid ≡ e.sid)
      by (Sent time) c u = absurd (let high = requested_high g.row g.grant.size in omega arith)
      by (Window i) c u = of_kind i c IsStation (station g.kind u) (λ sid. sid ≡ e.sid) sid

  of_initial : e.iuc ≡ 3 → (e.sid ≡ everybody) × IsOfKind cs ch m IsInitial (λ sid. Unit {0})
  of_initial iuc = (sym (ap (told_sid g.grant.sid) (sym iuc) ∙ g.sid_is), by g.grant.cause refl g.use_is)
    where
      initial : (kind : FlowKind) → IsDueUseOf g.row kind g.grant.size e.iuc → IsInitial kind
      initial (BestEffort priority) u = u
      initial (Ugs size interval jitter base) u = absurd (let high = unsolicited_high g.row g.grant.size in omega arith)
      initial (Poll interval jitter base) u = absurd (omega arith)
      initial (Station size interval jitter base) u = absurd (omega arith)
      initial (Initial size interval jitter base) u = tt

      by : (cause : Cause) → g.grant.cause ≡ cause → IsUseBy g.row g.kind g.grant.size e.iuc cause → IsOfKind cs ch m IsInitial (λ sid. Unit {0})
      by (Sent time) c u = absurd (let high = requested_high g.row g.grant.size in omega arith)
      by (Window i) c u = of_kind i c IsInitial (initial g.kind u) (λ sid. Unit {0}) tt

  -- a grant is never told as free
  not_free : e.sid ≡ everybody → e.iuc ≡ 1 → ⊥
  not_free all iuc =
      let sid : g.grant.sid ≡ e.sid = ap (told_sid g.grant.sid) (sym iuc) ∙ g.sid_is in
      let small : g.grant.sid ≤ last_sid = g.unicast in
      omega arith

-- station maintenance is in a grant of such a flow to its SID, initial maintenance is everybody's and in a grant of such a
-- flow, and what is everybody's for requests is in no grant
pub maintenance_is_told : MaintenanceIsTold
maintenance_is_told cs k ch start len m bytes map e out b from cell = elim (given_from [] cs k ch start len m bytes map e none_well (λ c t f. absurd cc) out b from cell) [
  | inl g ↦ record {
    station = of_station cs ch m e g;
    initial = of_initial cs ch m e g;
    free = λ all iuc. absurd (not_free cs ch m e g all iuc);
  }
  | inr left ↦
      let iuc : e.iuc ≡ 1 = left.use_is in
      record {
        station = λ is. absurd (omega arith);
        initial = λ is. absurd (omega arith);
        free = λ all is j g h. left.none g (has_at (grants_from [] cs) j g h.given) h.channel h.begun h.not_ended;
      }
]
