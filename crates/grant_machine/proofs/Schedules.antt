-- What modems can rely on in the outputs of any list of commands.
use Rattle.std.proofs.Common.{◌≡◌, ℕ, zero, suc, ◌+◌, ◌-◌, ◌<◌, ◌≤◌, ◌==◌, true, false, cond, List, [], ◌∷◌, ◌++◌, map}
use Rattle.std.proofs.Common.{length, Option, Some, None, refl, sym, ap, subst, ◌∙◌, arith, inl, inr, slice_get}
use Rattle.std.proofs.lemmas.Option.{same_Some}
use Rattle.std.specs.List.{AllByRecursion, cons_option, filter_map, range_with_len}
use Rattle.std.proofs.lemmas.Bool.{eqb-true}
use Rattle.minislot_time.specs.Wire.{wire}
use Rattle.map_body.specs.declared.element.Element.{Element}
use Rattle.map_body.specs.Body.{Body}
use Rattle.map_body.specs.Layout.{IsBody, IsWritten}
use Rattle.map_body.specs.Cell.{IsCell}
use Rattle.map_body.proofs.Callers.{one_body}
use Rattle.flow_state.specs.Limits.{last_time, last_sid}
use Rattle.flow_state.specs.Rows.{Rows, Table, is_of_sid}
use Rattle.grant_machine.specs.declared.command.Command.{Command}
use Rattle.grant_machine.specs.declared.output.Output.{Output}
use Rattle.grant_machine.specs.declared.output.Output.TheVariants as outputs
use Rattle.grant_machine_parts.specs.declared.placing.Placement.{Placement}
use Rattle.grant_machine_parts.specs.declared.settings.CutSettings.{CutSettings}
use Rattle.grant_machine_parts.specs.Cutting.{Filled, fill, fill_refusal, span_of}
use Rattle.grant_machine_parts.specs.Placing.{holder, holds}
use Rattle.grant_machine_parts.specs.Drawing.{beginning, begins_at, body_of, bytes_of, free_element, null_element}
use Rattle.grant_machine_parts.specs.Drawing.{placed_element}
use Rattle.grant_machine.specs.Steps.{step}
use Rattle.grant_machine.specs.Runs.{outputs_from, outputs_of, rows_from, IsReached}
use Rattle.grant_machine.specs.Fits.{FitsCommand}
use Rattle.grant_machine.specs.Owner.{IsMapOf, IsGiven}
use Rattle.grant_machine.specs.Maintenance.{OpeningsHaveNoOwner}
use Rattle.grant_machine.specs.Laws.{IsLeasedAt, OutputsGoOn, MapsAreBodies, MapsAreBodiesFrom, SharedMapsAreOne}
use Rattle.grant_machine.specs.Laws.{SidsAreUnicast, OwnersAreOne}
use Rattle.flow_state.proofs.Callers.{Has, contains_at, found_has, unfound}
use Rattle.grant_machine.proofs.Maps.{maps_are_disjoint}
use Rattle.flow_state.proofs.Callers.{is_found}
use Rattle.grant_machine.proofs.Leases.{AllLeadBack, back_step, step_gives, leases_are_apart}
use Rattle.flow_state.proofs.Callers.{IsWell}
use Rattle.grant_machine_parts.proofs.Callers.{is_cut}
use Rattle.grant_machine_parts.proofs.Callers.{count, holds_from, null_at, none_before}
use Rattle.grant_machine_parts.proofs.Callers.{pending, cut_placed, cut_most, pending_plain, cut_written}
use Rattle.grant_machine.proofs.Reached.{At, AllWell, none_well, well_step, rows_keep, reached_is_well, FitsTable}
use Rattle.grant_machine.proofs.Reached.{none_fit, fit_rows, reached_fits}
use Rattle.grant_machine.proofs.Cuts.{map_parts, cut_of_map}
use Rattle.grant_machine.proofs.Tellings.{drawn_body, cut_cell}

-- ---- outputs of longer lists

pub one_each : (rows : Rows) (cs : List Command) → length (outputs_from rows cs) ≡ length cs
one_each rows [] = refl
one_each rows (c ∷ cs) = ap suc (one_each (step rows c).rows cs)

go_on : (rows : Rows) (cs more : List Command) (p : ℕ) (o : Output) → slice_get (outputs_from rows cs) p ≡ Some o → slice_get (outputs_from rows (cs ++ more)) p ≡ Some o
go_on rows [] more p o e = absurd cc
go_on rows (c ∷ cs) more zero o e = e
go_on rows (c ∷ cs) more (suc p) o e = go_on (step rows c).rows cs more p o e

pub outputs_go_on : OutputsGoOn
outputs_go_on = record { one_each = λ cs. one_each [] cs; go_on = λ cs more p o e. go_on [] cs more p o e }

-- ---- the step that gives an output

-- some command gives the output, after the commands before it
pub record IsStepAt (rows : Rows) (cs : List Command) (o : Output) : Type 0 where
  pub front : List Command
  pub command : Command
  pub fits : AllByRecursion FitsCommand cs → AllByRecursion FitsCommand front
  pub gives : (step (rows_from rows front) command).output ≡ o

step_at : (rows : Rows) (cs : List Command) (k : ℕ) (o : Output) → slice_get (outputs_from rows cs) k ≡ Some o → IsStepAt rows cs o
step_at rows [] k o e = absurd cc
step_at rows (c ∷ cs) zero o e = record { front = []; command = c; fits = λ all. tt; gives = same_Some _ _ e }
step_at rows (c ∷ cs) (suc k) o e =
    let later = step_at (step rows c).rows cs k o e in
    record { front = c ∷ later.front; command = later.command; fits = λ all. (all.0, later.fits all.1); gives = later.gives }

-- ---- MAPs

-- the MAP is what was drawn of a table
pub record IsDrawn (ch start len : ℕ) (bytes : List ℕ) (P : Table → Type 0) : Type 0 where
  pub table : Table
  pub settings : CutSettings
  pub len_is : settings.len ≡ len
  pub well : IsWell table
  pub holds : P table
  pub ok : fill_refusal table.row settings ≡ None
  pub channel_is : table.row.channel.id ≡ ch
  pub start_is : (span_of table.row settings.len settings.not_before).start ≡ start
  pub bytes_is : bytes_of table (fill table settings) ≡ bytes

drawn_now : (P : Table → Type 0) (rows : Rows) (c : Command) (ch start len : ℕ) (bytes : List ℕ) → AllWell rows → ((at : ℕ) → At P rows at) → (step rows c).output ≡ outputs.Map ch start len bytes → IsDrawn ch start len bytes P
drawn_now P rows c ch start len bytes w p out =
    let m = cut_of_map rows c ch start len bytes out in
    let cut = m.cut in
    let t : Table = cut.table in
    let drawn : IsDrawn ch start cut.settings.len bytes P = record {
      table = t;
      settings = cut.settings;
      len_is = refl;
      well = w ch t cut.found;
      holds = p ch t cut.found;
      ok = cut.ok;
      channel_is = eqb-true _ _ (is_found rows ch t cut.found);
      start_is = m.start_is;
      bytes_is = m.bytes_is;
    } in
    subst (λ (n : ℕ). IsDrawn ch start n bytes P) m.len_is drawn

drawn_at : (cs : List Command) (k ch start len : ℕ) (bytes : List ℕ) → slice_get (outputs_of cs) k ≡ Some (outputs.Map ch start len bytes) → IsDrawn ch start len bytes (λ t. Unit {0})
drawn_at cs k ch start len bytes e =
    let s = step_at [] cs k (outputs.Map ch start len bytes) e in
    drawn_now (λ t. Unit {0}) (rows_from [] s.front) s.command ch start len bytes (rows_keep AllWell well_step [] s.front none_well) (λ at t found. tt) s.gives

-- ---- where a MAP begins

-- an element begins at the first minislot: that of the placement that holds it, or of free minislots
front : (ps : List Placement) → (e : Element) × (begins_at ps 0 ≡ Some e) × (e.offset ≡ 0)
front ps = by (holder ps 0) refl
  where
    by : (o : Option Placement) → holder ps 0 ≡ o → (e : Element) × (begins_at ps 0 ≡ Some e) × (e.offset ≡ 0)
    by None f = (free_element 0, ap (beginning 0 (holder ps (0 - 1))) f, refl)
    by (Some p) f =
        let from = holds_from 0 p (found_has (holds 0) ps p f).1 in
        let here : p.offset ≡ 0 = omega (arith, from) in
        (placed_element p, ap (beginning 0 (holder ps (0 - 1))) f ∙ ap (λ n. cond (n == 0) (Some (placed_element p)) None) here, here)

-- what begins there is the first one
first_is : (b : ℕ → Option Element) (len : ℕ) (rest : List Element) (d e : Element) → 1 ≤ len → b 0 ≡ Some d → slice_get (filter_map b (range_with_len 0 len) ++ rest) 0 ≡ Some e → d ≡ e
first_is b zero rest d e some begins first = absurd (omega arith)
first_is b (suc n) rest d e some begins first =
    same_Some d e (sym (ap (λ (o : Option Element). slice_get (cons_option o (filter_map b (range_with_len 1 n)) ++ rest) 0) begins) ∙ first)

body_of_drawn : (ch start len : ℕ) (bytes : List ℕ) → IsDrawn ch start len bytes FitsTable → IsMapOf ch start len bytes
body_of_drawn ch start len bytes d =
    let t : Table = d.table in
    let w = d.well in
    let ok = d.ok in
    let n : ℕ = d.settings.len in
    let f : Filled = fill t d.settings in
    let a = cut_placed t d.settings w ok in
    let most = cut_most t d.settings w ok in
    let rest = pending t d.settings w ok in
    let plain = pending_plain t d.settings w ok in
    let cut = is_cut t d.settings ok in
    subst (λ (m : ℕ). IsMapOf ch start m bytes) d.len_is (record {
      map = body_of t f;
      body = subst (λ (bs : List ℕ). IsWritten bs (body_of t f)) d.bytes_is (cut_written t d.settings w ok d.holds.id d.holds.ucd);
      channel = d.channel_is;
      start_is = ap wire d.start_is;
      begins = λ e first.
          let d = front f.placements in
          ap (λ (c : Element). c.offset) (sym (first_is (begins_at f.placements) n _ d.0 e cut.some d.1 first)) ∙ d.2;
      null = record {
        place = count t f.span f.placements a n refl most rest plain;
        null = null_element n;
        here_is = null_at t f.span f.placements a n refl most rest plain;
        is_null = refl;
        first = none_before t f.span f.placements a n refl most rest plain;
        offset_is = refl;
      };
      some = cut.some;
      most = cut.most;
      last = subst (λ m. m + n ≤ last_time) d.start_is cut.end;
    })

-- each MAP's bytes are its body
pub maps_are_bodies : MapsAreBodies
maps_are_bodies cs ch start len bytes all contains =
    let here = contains_at (outputs_of cs) (outputs.Map ch start len bytes) contains in
    let s = step_at [] cs here.0 (outputs.Map ch start len bytes) here.1 in
    body_of_drawn ch start len bytes
    (drawn_now FitsTable (rows_from [] s.front) s.command ch start len bytes (rows_keep AllWell well_step [] s.front none_well) (fit_rows [] s.front (s.fits all) none_fit) s.gives)

-- so are those from rows that commands could leave
pub maps_are_bodies_from : MapsAreBodiesFrom
maps_are_bodies_from opening cs ch start len bytes firm all contains =
    let here = contains_at (outputs_from opening cs) (outputs.Map ch start len bytes) contains in
    let s = step_at opening cs here.0 (outputs.Map ch start len bytes) here.1 in
    let before : IsReached (rows_from opening s.front) = (opening, firm, s.front, s.fits all, refl) in
    body_of_drawn ch start len bytes
    (drawn_now FitsTable (rows_from opening s.front) s.command ch start len bytes (reached_is_well (rows_from opening s.front) before) (reached_fits (rows_from opening s.front) before) s.gives)

-- two MAPs of a channel that share a minislot are the same
pub shared_maps_are_one : SharedMapsAreOne
shared_maps_are_one cs ch m start len start' len' bytes bytes' a b p q =
    let j = contains_at (outputs_of cs) (outputs.Map ch start len bytes) a in
    let k = contains_at (outputs_of cs) (outputs.Map ch start' len' bytes') b in
    let same : j.0 ≡ k.0 = maps_are_disjoint cs j.0 k.0 ch m start len start' len' bytes bytes' j.1 k.1 p q in
    let parts = map_parts ch start len ch start' len' bytes bytes' (same_Some _ _ (sym j.1 ∙ ap (slice_get (outputs_of cs)) same ∙ k.1)) in
    (parts.1, parts.2, parts.3)

-- ---- SIDs

-- a SID that a step gives leads to its lease, which is of a unicast one
assigned_unicast : (rows : Rows) (c : Command) (m ch sid since until : ℕ) → AllWell rows → AllLeadBack rows → (step rows c).output ≡ outputs.Assigned m ch sid since until → (1 ≤ sid) × (sid ≤ last_sid)
assigned_unicast rows c m ch sid since until w good e =
    let l = step_gives rows c m ch sid since until good e in
    let had = found_has (is_of_sid sid) l.table.leases l.holds.lease l.holds.found in
    let well = (well_step rows c w ch l.table l.found).leases l.holds.lease had.0 in
    let same : l.holds.lease.sid ≡ sid = eqb-true _ _ had.1 in
    (subst (λ n. 1 ≤ n) same well.unicast, subst (λ n. n ≤ last_sid) same well.last)

pub sids_are_unicast : SidsAreUnicast
sids_are_unicast cs m ch sid since until contains =
    let here = contains_at (outputs_of cs) (outputs.Assigned m ch sid since until) contains in
    let s = step_at [] cs here.0 (outputs.Assigned m ch sid since until) here.1 in
    assigned_unicast (rows_from [] s.front) s.command m ch sid since until (rows_keep AllWell well_step [] s.front none_well) (rows_keep AllLeadBack back_step [] s.front (λ c t f. absurd cc)) s.gives

-- ---- owners

-- two cells of one minislot of a MAP have one SID
same_sid : (t : Table) (asks : CutSettings) (x : ℕ) (map : Body) (d e : Element) (w : IsWell t) (ok : fill_refusal t.row asks ≡ None) → map ≡ body_of t (fill t asks)
    → IsCell map x d → IsCell map x e → d.sid ≡ e.sid
same_sid t asks x map d e w ok same c k =
    elim (cut_cell t asks x map d w ok same c).whose [
      | inl p ↦ elim (cut_cell t asks x map e w ok same k).whose [
        | inl q ↦
            let one : p.0 ≡ q.0 = (cut_placed t asks w ok).apart x p.0 q.0 p.1 q.1 p.2 q.2 in
            ap (λ (y : Element). y.sid) (sym p.3) ∙ ap (λ (r : Placement). (placed_element r).sid) one ∙ ap (λ (y : Element). y.sid) q.3
        | inr free ↦ absurd (held p.0 p.1 p.2 free.free)
      ]
      | inr free ↦ elim (cut_cell t asks x map e w ok same k).whose [
        | inl q ↦ absurd (held q.0 q.1 q.2 free.free)
        | inr other ↦ free.all ∙ sym other.all
      ]
    ]
  where
    held : (p : Placement) → Has (fill t asks).placements p → holds x p ≡ true → holder (fill t asks).placements x ≡ None → ⊥
    held p h on free = let off : holds x p ≡ false = unfound (holds x) (fill t asks).placements p free h in cc

-- a minislot that is given lies in its MAP
given_within : (cs : List Command) (k ch start len m : ℕ) (bytes : List ℕ) (map : Body) (e : Element) → slice_get (outputs_of cs) k ≡ Some (outputs.Map ch start len bytes) → IsBody bytes map → start ≤ m → IsCell map (m - start) e → m < start + len
given_within cs k ch start len m bytes map e out body from cell =
    let d = drawn_at cs k ch start len bytes out in
    let drawn = drawn_body d.table d.settings bytes map d.well d.ok d.bytes_is body in
    let within : m - start < d.settings.len = (cut_cell d.table d.settings (m - start) map e d.well d.ok drawn cell).within in
    let len_is : d.settings.len ≡ len = d.len_is in
    omega arith

-- what MAPs give a minislot to has one SID
one_sid : (cs : List Command) (ch m : ℕ) (d e : Element) → IsGiven (outputs_of cs) ch m d → IsGiven (outputs_of cs) ch m e → d.sid ≡ e.sid
one_sid cs ch m d e u v =
    let j = contains_at (outputs_of cs) (outputs.Map ch u.start u.len u.bytes) u.told in
    let k = contains_at (outputs_of cs) (outputs.Map ch v.start v.len v.bytes) v.told in
    let first = given_within cs j.0 ch u.start u.len m u.bytes u.map d j.1 u.body u.begun u.cell in
    let second = given_within cs k.0 ch v.start v.len m v.bytes v.map e k.1 v.body v.begun v.cell in
    let one = shared_maps_are_one cs ch m u.start u.len v.start v.len u.bytes v.bytes u.told v.told (u.begun, first) (v.begun, second) in
    let map_is : v.map ≡ u.map = one_body u.bytes v.map u.map (subst (λ (bs : List ℕ). IsBody bs v.map) (sym one.2) v.body) u.body in
    let cell : IsCell u.map (m - u.start) e = subst (λ (n : ℕ). IsCell u.map (m - n) e) (sym one.0) (subst (λ (x : Body). IsCell x (m - v.start) e) map_is v.cell) in
    let w = drawn_at cs j.0 ch u.start u.len u.bytes j.1 in
    let drawn = drawn_body w.table w.settings u.bytes u.map w.well w.ok w.bytes_is u.body in
    same_sid w.table w.settings (m - u.start) u.map d e w.well w.ok drawn u.cell cell

-- what MAPs give to everybody has no owner
pub openings_have_no_owner : OpeningsHaveNoOwner
openings_have_no_owner cs ch m modem e given all owns =
    let sid : e.sid ≡ owns.element.sid = one_sid cs ch m e owns.element given owns.given in
    let small : owns.element.sid ≤ last_sid = owns.unicast.1 in
    omega arith

-- a minislot has one owner at most
pub owners_are_one : OwnersAreOne
owners_are_one cs ch m a b p q =
    let sid : p.element.sid ≡ q.element.sid = one_sid cs ch m p.element q.element p.given q.given in
    let r = p.assigned in
    let s = q.assigned in
    let x = contains_at (outputs_of cs) (outputs.Assigned a ch p.element.sid r.first r.last) r.assigned in
    let y = contains_at (outputs_of cs) (outputs.Assigned b ch q.element.sid s.first s.last) s.assigned in
    let other : IsLeasedAt cs y.0 b ch p.element.sid s.first s.last = subst (λ n. slice_get (outputs_of cs) y.0 ≡ Some (outputs.Assigned b ch n s.first s.last)) (sym sid) y.1 in
    (leases_are_apart cs x.0 y.0 a b ch p.element.sid r.first r.last s.first s.last m x.1 other (r.begun, r.not_ended) (s.begun, s.not_ended)).0
