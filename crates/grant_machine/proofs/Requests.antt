-- A request is accepted once at most, and granted once at most, whole.
use Rattle.std.proofs.Common.{◌≡◌, ◌⊎◌, ℕ, zero, suc, ◌+◌, ◌<◌, ◌≤◌, Bool, true, false, cond, not, ◌&&◌, List, [], ◌∷◌}
use Rattle.std.proofs.Common.{◌++◌, map, filter, length, Option, Some, None, refl, sym, ap, subst, ◌∙◌, arith, inl, inr}
use Rattle.std.proofs.Common.{eqb, slice_get, length-append}
use Rattle.std.proofs.lemmas.Option.{same_Some}
use Rattle.std.specs.List.{find}
use Rattle.std.proofs.lemmas.Bool.{eqb-true, and_parts, and_right, false_from_ne_true}
use Rattle.minislot_time.specs.Extent.{Extent}
use Rattle.flow_state.specs.declared.channel.Channel.{Channel}
use Rattle.flow_state.specs.declared.flow.Waiting.{Waiting}
use Rattle.flow_state.specs.declared.refusal.Refusal.{Refusal}
use Rattle.flow_state.specs.declared.flow.Lease.{Lease}
use Rattle.flow_state.specs.Rows.{Rows, Table, FlowRow, is_of, is_of_sid, table_of, lease_of, last_of, lease_in}
use Rattle.flow_state.specs.Refusals.{table_request_refusal, request_refusal}
use Rattle.flow_state.specs.Changes.{flow_among, request_in_table}
use Rattle.grant_machine.specs.declared.command.Command.{Command}
use Rattle.grant_machine.specs.declared.command.Command.TheVariants as commands
use Rattle.grant_machine.specs.declared.output.Output.{Output}
use Rattle.grant_machine.specs.declared.output.Output.TheVariants as outputs
use Rattle.grant_machine_parts.specs.declared.placing.Cause.{Cause}
use Rattle.grant_machine_parts.specs.declared.placing.Placement.{Placement}
use Rattle.grant_machine_parts.specs.declared.placing.Cause.TheVariants.{Window, Sent}
use Rattle.grant_machine_parts.specs.declared.settings.CutSettings.{CutSettings}
use Rattle.grant_machine_parts.specs.Cutting.{span_of, fill_windows, in_order, placement_at, placement_for, request_fit}
use Rattle.grant_machine_parts.specs.Cutting.{place_requests, is_cause_sent, is_grant_of, Filled, fill, fill_span}
use Rattle.grant_machine_parts.specs.Cutting.{table_after}
use Rattle.grant_machine.specs.Steps.{cut_settings, step, step_on, accepted}
use Rattle.grant_machine.specs.Runs.{outputs_from, grants_from, Grant, grant_of, step_grants}
use Rattle.grant_machine.specs.Laws.{RequestsAreGrantedOnce, IsGrantedAt}
use Rattle.flow_state.proofs.Callers.{Has, has_at, has_either, has_pushed, has_filter, filter_has, filter_empty}
use Rattle.flow_state.proofs.Callers.{has_any}
use Rattle.flow_state.proofs.Callers.{filter_append}
use Rattle.flow_state.proofs.Callers.{some_is, eqb_same, refusal_there, there}
use Rattle.grant_machine_parts.proofs.Callers.{in_order_fewer}
use Rattle.flow_state.proofs.Callers.{one_flow, is_asked}
use Rattle.grant_machine_parts.proofs.Callers.{windows_keep, IsFor, is_cut, cut_placed, flow_from, cut_is_well}
use Rattle.grant_machine.proofs.Turns.{made, Changes, before, found_changed}
use Rattle.grant_machine.proofs.Reached.{Stands, stands_step, AllWell, none_well, well_step}
use Rattle.grant_machine.proofs.Cuts.{IsGrantStep, cut_of_grant}
use Rattle.grant_machine.proofs.Asked.{WasAsked, IsGone, newer, sent_after, waits_before, asked_kept, asked_now}
use Rattle.grant_machine.proofs.Asked.{gone_kept}

-- ---- accepted once

-- an accepted request isn't refused
request_ok : (rows : Rows) (ch sid n sent : ℕ) → (step rows (commands.Request ch sid n sent)).output ≡ outputs.Nothing → request_refusal rows ch sid n sent ≡ None
request_ok rows ch sid n sent e = by (request_refusal rows ch sid n sent) refl e
  where
    by : (o : Option Refusal) → request_refusal rows ch sid n sent ≡ o → (step_on o rows (commands.Request ch sid n sent)).output ≡ outputs.Nothing → request_refusal rows ch sid n sent ≡ None
    by None f g = f
    by (Some r) f g = absurd cc

-- the request can't be accepted again
not_again : (rows : Rows) (ch sid n sent : ℕ) → Stands (λ t. WasAsked t sid sent) rows ch → request_refusal rows ch sid n sent ≡ None → ⊥
not_again rows ch sid n sent s ok =
    let a = is_asked s.table sid n sent (refusal_there rows ch s.table (λ t. table_request_refusal t sid n sent) s.found ok) in
    let lt : sent < sent = newer a.flow sent sent (s.holds.later a.flow a.there a.sid_is) a.after a.new in
    omega arith

never_again : (rows : Rows) (cs : List Command) (k ch sid n sent : ℕ) → Stands (λ t. WasAsked t sid sent) rows ch
    → slice_get cs k ≡ Some (commands.Request ch sid n sent) → slice_get (outputs_from rows cs) k ≡ Some outputs.Nothing → ⊥
never_again rows [] k ch sid n sent s c_is o_is = cc
never_again rows (c ∷ cs) zero ch sid n sent s c_is o_is =
    let same : c ≡ commands.Request ch sid n sent = same_Some c _ c_is in
    not_again rows ch sid n sent s (request_ok rows ch sid n sent (ap (λ (d : Command). (step rows d).output) (sym same) ∙ same_Some _ _ o_is))
never_again rows (c ∷ cs) (suc k) ch sid n sent s c_is o_is = never_again (step rows c).rows cs k ch sid n sent (stands_step (λ t. WasAsked t sid sent) (asked_kept sid sent) rows c ch s) c_is o_is

-- after it is accepted, the request was asked
accepted_stands : (rows : Rows) (ch sid n sent : ℕ) → AllWell rows → request_refusal rows ch sid n sent ≡ None → Stands (λ t. WasAsked t sid sent) (step rows (commands.Request ch sid n sent)).rows ch
accepted_stands rows ch sid n sent w ok =
    let (t, found) = there (table_of rows ch) (λ t. table_request_refusal t sid n sent) ok in
    subst (λ (o : Option Refusal). Stands (λ t. WasAsked t sid sent) (step_on o rows (commands.Request ch sid n sent)).rows ch) (sym ok) (record {
      table = request_in_table t sid n sent;
      found = found_changed rows ch (λ u. request_in_table u sid n sent) t (λ u. refl) found;
      holds = asked_now t sid n sent (refusal_there rows ch t (λ u. table_request_refusal u sid n sent) found ok) (w ch t found);
    })

accepted_first : (rows : Rows) (c : Command) (cs : List Command) (ch sid n sent : ℕ) → AllWell rows → c ≡ commands.Request ch sid n sent → (step rows c).output ≡ outputs.Nothing → Stands (λ t. WasAsked t sid sent) (step rows c).rows ch
accepted_first rows c cs ch sid n sent w same e =
    subst (λ (d : Command). Stands (λ t. WasAsked t sid sent) (step rows d).rows ch) (sym same)
    (accepted_stands rows ch sid n sent w (request_ok rows ch sid n sent (ap (λ (d : Command). (step rows d).output) (sym same) ∙ e)))

once_accepted : (rows : Rows) (cs : List Command) (j k ch sid n m sent : ℕ) → AllWell rows
    → slice_get cs j ≡ Some (commands.Request ch sid n sent) → slice_get (outputs_from rows cs) j ≡ Some outputs.Nothing
    → slice_get cs k ≡ Some (commands.Request ch sid m sent) → slice_get (outputs_from rows cs) k ≡ Some outputs.Nothing → j ≡ k
once_accepted rows [] j k ch sid n m sent w a b c d = absurd cc
once_accepted rows (x ∷ cs) zero zero ch sid n m sent w a b c d = refl
once_accepted rows (x ∷ cs) zero (suc k) ch sid n m sent w a b c d =
    absurd (never_again (step rows x).rows cs k ch sid m sent (accepted_first rows x cs ch sid n sent w (same_Some x _ a) (same_Some _ _ b)) c d)
once_accepted rows (x ∷ cs) (suc j) zero ch sid n m sent w a b c d =
    absurd (never_again (step rows x).rows cs j ch sid n sent (accepted_first rows x cs ch sid m sent w (same_Some x _ c) (same_Some _ _ d)) a b)
once_accepted rows (x ∷ cs) (suc j) (suc k) ch sid n m sent w a b c d = ap suc (once_accepted (step rows x).rows cs j k ch sid n m sent (well_step rows x w) a b c d)

-- ---- the placements of one MAP for a request

-- the placement is for the SID's request that was sent then
abbrev its : ℕ → ℕ → Placement → Bool
its sid sent p = eqb p.sid sid && is_cause_sent p.cause sent

windows_none : (t : Table) (span : Extent) (sid sent : ℕ) → filter (its sid sent) (fill_windows t span).placements ≡ []
windows_none t span sid sent =
    windows_keep (λ qs. filter (its sid sent) qs ≡ []) t span (λ p qs i x empty fit.
    filter_append (its sid sent) qs (placement_at p i x ∷ []) ∙ ap (λ (rs : List Placement). rs ++ filter (its sid sent) (placement_at p i x ∷ [])) empty
    ∙ ap (λ b. cond b (placement_at p i x ∷ []) []) (and_right (eqb p.sid sid) false refl)) refl

requests_count : (span : Extent) (c : Channel) (keep : ℕ) (last : ℕ → ℕ) (sid sent : ℕ) (ws : List Waiting) (ps : List Placement) → length (filter (its sid sent) (place_requests span c keep last ws ps)) ≤ length (filter (its sid sent) ps) + length (filter (is_of sid) ws)
requests_count span c keep last sid sent [] ps = omega arith
requests_count span c keep last sid sent (w ∷ ws) ps =
    let later = λ (qs : List Placement). requests_count span c keep last sid sent ws qs in
    elim (request_fit span keep last w ps) as (λ o. length (filter (its sid sent) (elim o [ Some x ↦ place_requests span c keep last ws (ps ++ placement_for c w x ∷ []) | None ↦ place_requests span c keep last ws ps ]))
    ≤ length (filter (its sid sent) ps) + length (cond (eqb w.sid sid) (w ∷ filter (is_of sid) ws) (filter (is_of sid) ws))) [
      | Some x ↦
          let more = later (ps ++ placement_for c w x ∷ []) in
          let parts : length (filter (its sid sent) (ps ++ placement_for c w x ∷ [])) ≡ length (filter (its sid sent) ps) + length (filter (its sid sent) (placement_for c w x ∷ [])) =
          ap length (filter_append (its sid sent) ps (placement_for c w x ∷ [])) ∙ length-append (filter (its sid sent) ps) (filter (its sid sent) (placement_for c w x ∷ [])) in
          by (eqb w.sid sid) (eqb w.sent sent) (placement_for c w x) _ _ _ more parts
      | None ↦ let more = later ps in none (eqb w.sid sid) _ _ more
    ]
  where
    by : (a b : Bool) (q : Placement) (all first old : ℕ) → all ≤ first + length (filter (is_of sid) ws) → first ≡ old + length (cond (a && b) (q ∷ []) []) → all ≤ old + length (cond a (w ∷ filter (is_of sid) ws) (filter (is_of sid) ws))
    by true true q all first old le e = omega arith
    by true false q all first old le e = omega arith
    by false b q all first old le e = omega arith

    none : (a : Bool) (all old : ℕ) → all ≤ old + length (filter (is_of sid) ws) → all ≤ old + length (cond a (w ∷ filter (is_of sid) ws) (filter (is_of sid) ws))
    none true all old le = omega arith
    none false all old le = le

fill_count : (t : Table) (span : Extent) (asks : CutSettings) (sid sent : ℕ) → length (filter (its sid sent) (fill_span t span asks).placements) ≤ length (filter (is_of sid) t.waiting)
fill_count t span asks sid sent =
    let c : Channel = t.row.channel in
    let windows : List Placement = (fill_windows t span).placements in
    let none : length (filter (its sid sent) windows) ≡ 0 = ap length (windows_none t span sid sent) in
    let asked = requests_count span c asks.keep (last_of t) sid sent (in_order t t.waiting) windows in
    let order = in_order_fewer (is_of sid) t t.waiting in
    omega arith

-- ---- the grants of a step

-- whether the grant is of the request
abbrev its_grant : ℕ → ℕ → ℕ → Grant → Bool
its_grant ch sid sent g = eqb g.channel ch && (eqb g.sid sid && is_cause_sent g.cause sent)

grants_count : (ch sid sent at start : ℕ) (ps : List Placement) → length (filter (its_grant ch sid sent) (map (grant_of at start) ps)) ≤ length (filter (its sid sent) ps)
grants_count ch sid sent at start [] = omega arith
grants_count ch sid sent at start (p ∷ ps) =
    let later = grants_count ch sid sent at start ps in
    by (eqb at ch) (its sid sent p) later
  where
    by : (a b : Bool) → length (filter (its_grant ch sid sent) (map (grant_of at start) ps)) ≤ length (filter (its sid sent) ps)
        → length (cond (a && b) (grant_of at start p ∷ filter (its_grant ch sid sent) (map (grant_of at start) ps)) (filter (its_grant ch sid sent) (map (grant_of at start) ps))) ≤ length (cond b (p ∷ filter (its sid sent) ps) (filter (its sid sent) ps))
    by true true le = omega arith
    by true false le = le
    by false true le = omega arith
    by false false le = le

-- a grant of a request is in a step: the request waited there
pub record Waited (rows : Rows) (c : Command) (g : Grant) (sent : ℕ) : Type 0 where
  pub step : IsGrantStep rows c g
  pub cause_is : step.placement.cause ≡ Sent sent
  pub request : Waiting
  pub waited : Has step.cut.table.waiting request
  pub of : request.sid ≡ g.sid
  pub whole : request.n ≡ g.size
  pub then : request.sent ≡ sent

waited : (rows : Rows) (c : Command) (g : Grant) (sent : ℕ) → AllWell rows → Has (step_grants rows c) g → g.cause ≡ Sent sent → Waited rows c g sent
waited rows c g sent w h cause =
    let s = cut_of_grant rows c g h in
    let cut = s.cut in
    let span : Extent = span_of cut.table.row cut.settings.len cut.settings.not_before in
    let serves = ((cut_placed cut.table cut.settings (w g.channel cut.table cut.found) cut.ok).each s.placement s.there).serves in
    let cause_is : s.placement.cause ≡ Sent sent = ap (λ (x : Grant). x.cause) s.is ∙ cause in
    let r : IsFor cut.table span s.placement (Sent sent) = subst (IsFor cut.table span s.placement) cause_is serves in
    record { step = s; cause_is = cause_is; request = r.0; waited = r.1; of = r.2 ∙ ap (λ (x : Grant). x.sid) s.is; whole = r.3 ∙ ap (λ (x : Grant). x.size) s.is; then = r.4 }

-- the grant is of the request
pub record IsGrantOf (ch sid sent : ℕ) (g : Grant) : Type 0 where
  pub channel : g.channel ≡ ch
  pub sid_is : g.sid ≡ sid
  pub cause : g.cause ≡ Sent sent

its_parts : (ch sid sent : ℕ) (g : Grant) → its_grant ch sid sent g ≡ true → IsGrantOf ch sid sent g
its_parts ch sid sent g e =
    let one = and_parts (eqb g.channel ch) (eqb g.sid sid && is_cause_sent g.cause sent) e in
    let two = and_parts (eqb g.sid sid) (is_cause_sent g.cause sent) one.1 in
    record { channel = eqb-true _ _ one.0; sid_is = eqb-true _ _ two.0; cause = by g.cause two.1 }
  where
    by : (c : Cause) → is_cause_sent c sent ≡ true → c ≡ Sent sent
    by (Window i) f = absurd cc
    by (Sent s) f = ap Sent (eqb-true s sent f)

parts_its : (ch sid sent : ℕ) (g : Grant) → g.channel ≡ ch → g.sid ≡ sid → g.cause ≡ Sent sent → its_grant ch sid sent g ≡ true
parts_its ch sid sent g a b c = rw (a, b, c, eqb_same ch, eqb_same sid, eqb_same sent) refl

-- once the request is gone, no step grants it
gone_none : (rows : Rows) (c : Command) (ch sid sent : ℕ) → AllWell rows → Stands (λ t. IsGone t sid sent) rows ch → filter (its_grant ch sid sent) (step_grants rows c) ≡ []
gone_none rows c ch sid sent w s = filter_empty (its_grant ch sid sent) (step_grants rows c) (λ g h. false_from_ne_true (its_grant ch sid sent g) (λ e.
    let is = its_parts ch sid sent g e in
    let r = waited rows c g sent w h is.cause in
    let same : r.step.cut.table ≡ s.table = some_is r.step.cut.table s.table (sym r.step.cut.found ∙ ap (table_of rows) is.channel ∙ s.found) in
    s.holds.none r.request (subst (λ (t : Table). Has t.waiting r.request) same r.waited) (r.of ∙ is.sid_is) r.then))

none_from : (rows : Rows) (cs : List Command) (ch sid sent : ℕ) → AllWell rows → Stands (λ t. IsGone t sid sent) rows ch → filter (its_grant ch sid sent) (grants_from rows cs) ≡ []
none_from rows [] ch sid sent w s = refl
none_from rows (c ∷ cs) ch sid sent w s =
    filter_append (its_grant ch sid sent) (step_grants rows c) (grants_from (step rows c).rows cs)
    ∙ ap (λ (gs : List Grant). gs ++ filter (its_grant ch sid sent) (grants_from (step rows c).rows cs)) (gone_none rows c ch sid sent w s)
    ∙ none_from (step rows c).rows cs ch sid sent (well_step rows c w) (stands_step (λ t. IsGone t sid sent) (gone_kept sid sent) rows c ch s)

-- a step grants the request once at most
step_once : (rows : Rows) (c : Command) (ch sid sent : ℕ) → AllWell rows → length (filter (its_grant ch sid sent) (step_grants rows c)) ≤ 1
step_once rows c ch sid sent w = by (step_grants rows c) refl
  where
    by : (gs : List Grant) → step_grants rows c ≡ gs → length (filter (its_grant ch sid sent) gs) ≤ 1
    by [] e = omega arith
    by (g ∷ gs) e =
        let cut = (cut_of_grant rows c g (subst (λ (hs : List Grant). Has hs g) (sym e) (inl refl))).cut in
        let f : Filled = fill cut.table cut.settings in
        let few = fill_count cut.table f.span cut.settings sid sent in
        let one = (w g.channel cut.table cut.found).alone sid in
        let fewer = grants_count ch sid sent g.channel f.span.start f.placements in
        subst (λ (hs : List Grant). length (filter (its_grant ch sid sent) hs) ≤ 1) (sym cut.grants_are ∙ e) (omega arith)

-- and it is gone after that
gone_after : (rows : Rows) (c : Command) (g : Grant) (ch sid sent : ℕ) → AllWell rows → Has (step_grants rows c) g → IsGrantOf ch sid sent g → Stands (λ t. IsGone t sid sent) (step rows c).rows ch
gone_after rows c g ch sid sent w h is =
    let r = waited rows c g sent w h is.cause in
    let cut = r.step.cut in
    let p = r.step.placement in
    let t : Table = cut.table in
    let f : Filled = fill t cut.settings in
    let well = w g.channel t cut.found in
    let request = well.requests r.request r.waited in
    let of : r.request.sid ≡ sid = r.of ∙ is.sid_is in
    record {
      table = table_after t f;
      found = subst (λ n. table_of (step rows c).rows n ≡ Some (table_after t f)) is.channel cut.after;
      holds = record {
        past = record {
          well = cut_is_well t cut.settings cut.ok well;
          lease = lease_in request.flow;
          found = ap (λ n. find (is_of_sid n) t.leases) (sym (request.sid ∙ of)) ∙ (well.given request.flow request.there).lease;
          before = subst (λ n. n ≤ request.flow.last) r.then request.before;
          later = λ v k same.
              let from = flow_from t f.span cut.settings v (is_cut t cut.settings cut.ok).end k in
              let one : from.0 ≡ request.flow = one_flow 1 t.flows from.0 request.flow well.rising from.1 request.there (sym from.2.sid ∙ same ∙ sym of ∙ sym request.sid) in
              sent_after v sent sent (from.2.last_sent ∙ ap (λ (x : FlowRow). x.last_sent) one ∙ request.last ∙ ap (λ (n : ℕ). Some n) r.then) (omega arith);
        };
        none = λ v k same then.
            let its : is_grant_of v p ≡ true = granted v p (ap (λ (x : Grant). x.sid) r.step.is ∙ is.sid_is ∙ sym same) (r.cause_is ∙ ap Sent (sym then)) in
            let any = has_any (is_grant_of v) f.placements p r.step.there its in
            let waits = (waits_before t cut.settings v k).1 in
            let still : not true ≡ true = subst (λ b. not b ≡ true) any waits in
            cc;
      };
    }
  where
    granted : (v : Waiting) (p : Placement) → p.sid ≡ v.sid → p.cause ≡ Sent v.sent → is_grant_of v p ≡ true
    granted v p to cause = rw (to, cause, eqb_same v.sid, eqb_same v.sent) refl

once_granted : (rows : Rows) (cs : List Command) (ch sid sent : ℕ) → AllWell rows → length (filter (its_grant ch sid sent) (grants_from rows cs)) ≤ 1
once_granted rows [] ch sid sent w = omega arith
once_granted rows (c ∷ cs) ch sid sent w =
    subst (λ (gs : List Grant). length gs ≤ 1) (sym (filter_append (its_grant ch sid sent) (step_grants rows c) (grants_from (step rows c).rows cs)))
    (by (filter (its_grant ch sid sent) (step_grants rows c)) refl (once_granted (step rows c).rows cs ch sid sent (well_step rows c w)))
  where
    by : (gs : List Grant) → filter (its_grant ch sid sent) (step_grants rows c) ≡ gs → length (filter (its_grant ch sid sent) (grants_from (step rows c).rows cs)) ≤ 1
        → length (gs ++ filter (its_grant ch sid sent) (grants_from (step rows c).rows cs)) ≤ 1
    by [] e later = later
    by (g ∷ gs) e later =
        let h = has_filter (its_grant ch sid sent) (step_grants rows c) g (subst (λ (hs : List Grant). Has hs g) (sym e) (inl refl)) in
        let none = none_from (step rows c).rows cs ch sid sent (well_step rows c w) (gone_after rows c g ch sid sent w h.0 (its_parts ch sid sent g h.1)) in
        let empty : length (filter (its_grant ch sid sent) (grants_from (step rows c).rows cs)) ≡ 0 = ap length none in
        let one : length (g ∷ gs) ≤ 1 = subst (λ (hs : List Grant). length hs ≤ 1) e (step_once rows c ch sid sent w) in
        let all = length-append (g ∷ gs) (filter (its_grant ch sid sent) (grants_from (step rows c).rows cs)) in
        omega arith

fewer : {X : Type 0} (p : X → Bool) (z : X) (xs : List X) → length (filter p (z ∷ xs)) ≤ 1 → length (filter p xs) ≤ 1
fewer p z xs few = elim (p z) as (λ b. length (cond b (z ∷ filter p xs) (filter p xs)) ≤ 1 → length (filter p xs) ≤ 1) [ true ↦ λ le. omega arith | false ↦ λ le. le ] few

-- where the first one passes, no later one does
first : {X : Type 0} (p : X → Bool) (z x : X) (xs : List X) (k : ℕ) (y : X) → length (filter p (z ∷ xs)) ≤ 1 → z ≡ x → slice_get xs k ≡ Some y → p x ≡ true → p y ≡ true → ⊥
first {X} p z x xs k y few same at on of =
    let here : p z ≡ true = ap p same ∙ on in
    let two : length (z ∷ filter p xs) ≤ 1 = subst (λ b. length (cond b (z ∷ filter p xs) (filter p xs)) ≤ 1) here few in
    by (filter p xs) two (filter_has p xs y (has_at xs k y at) of)
  where
    by : (ys : List X) → length (z ∷ ys) ≤ 1 → Has ys y → ⊥
    by [] le h = h
    by (w ∷ ys) le h = omega arith

-- two places of elements that pass are one, where no more than one passes
one_place : {X : Type 0} (p : X → Bool) (xs : List X) (j k : ℕ) (x y : X) → length (filter p xs) ≤ 1 → slice_get xs j ≡ Some x → slice_get xs k ≡ Some y → p x ≡ true → p y ≡ true → j ≡ k
one_place p [] j k x y few a b on of = absurd cc
one_place p (z ∷ xs) zero zero x y few a b on of = refl
one_place p (z ∷ xs) zero (suc k) x y few a b on of = absurd (first p z x xs k y few (same_Some z x a) b on of)
one_place p (z ∷ xs) (suc j) zero x y few a b on of = absurd (first p z y xs j x few (same_Some z y b) a of on)
one_place p (z ∷ xs) (suc j) (suc k) x y few a b on of = ap suc (one_place p xs j k x y (fewer p z xs few) a b on of)

-- ---- what is granted was accepted

-- the request waits on the channel
abbrev Waits : Rows → ℕ → Waiting → Type 0
Waits rows ch w = Stands (λ t. Has t.waiting w) rows ch

-- a request that waits in a table that a command makes waited before it, or is the command's
made_waits : (c : Command) (ch : ℕ) (t : Table) (w : Waiting) → Changes c ch t → Has (made c t).waiting w → Has t.waiting w ⊎ (c ≡ commands.Request ch w.sid w.n w.sent)
made_waits commands.Noop ch t w e h = absurd e
made_waits (commands.Channel c) ch t w e h = absurd e
made_waits (commands.Change at s) ch t w e h = inl h
made_waits (commands.Flow at modem tag last kind) ch t w e h = inl (by (lease_of t modem tag) h)
  where
    by : (o : Option Lease) → Has (flow_among o t modem tag last kind).waiting w → Has t.waiting w
    by (Some a) h = h
    by None h = h
made_waits (commands.Drop at sid) ch t w e h = inl (has_filter (λ v. not (is_of sid v)) t.waiting w h).0
made_waits (commands.Request at sid n sent) ch t w e h = elim (has_pushed t.waiting (record { sid = sid; n = n; sent = sent }) w h) [
  | inl old ↦ inl old
  | inr new ↦ inr (ap (λ m. commands.Request m sid n sent) e.0 ∙ ap (λ (v : Waiting). commands.Request ch v.sid v.n v.sent) new)
]
made_waits (commands.Cut at len not_before ack keep ranging sending) ch t w e h = inl (waits_before t (cut_settings len not_before ack keep ranging sending) w h).0

step_comes : (rows : Rows) (c : Command) (ch : ℕ) (w : Waiting) → Waits (step rows c).rows ch w → Waits rows ch w ⊎ ((c ≡ commands.Request ch w.sid w.n w.sent) × ((step rows c).output ≡ outputs.Nothing))
step_comes rows c ch w s = elim (before rows c ch s.table s.found) [
  | inl old ↦ inl (record { table = s.table; found = old; holds = s.holds })
  | inr (inl set) ↦ absurd (subst (λ (v : Table). Has v.waiting w) (sym set.is) s.holds)
  | inr (inr (t, found, makes)) ↦ elim (made_waits c ch t w makes.changes (subst (λ (v : Table). Has v.waiting w) (sym makes.is) s.holds)) [
    | inl old ↦ inl (record { table = t; found = found; holds = old })
    | inr is ↦ inr (is, ap (λ (o : Option Refusal). (step_on o rows c).output) makes.ok ∙ ap (λ (d : Command). (accepted rows d).output) is)
  ]
]

-- the command of this number is the request, and is accepted
pub record IsAsk (rows : Rows) (cs : List Command) (ch sid n sent : ℕ) : Type 0 where
  pub place : ℕ
  pub asked : slice_get cs place ≡ Some (commands.Request ch sid n sent)
  pub accepted : slice_get (outputs_from rows cs) place ≡ Some outputs.Nothing

-- a grant of a request is of one that waits, or that is accepted later
asked_before : (rows : Rows) (cs : List Command) (g : Grant) (sent : ℕ) → AllWell rows → Has (grants_from rows cs) g → g.cause ≡ Sent sent → Waits rows g.channel (record { sid = g.sid; n = g.size; sent = sent }) ⊎ IsAsk rows cs g.channel g.sid g.size sent
asked_before rows [] g sent w h cause = absurd h
asked_before rows (c ∷ cs) g sent w h cause = elim (has_either (step_grants rows c) (grants_from (step rows c).rows cs) g h) [
  | inl now ↦
      let r = waited rows c g sent w now cause in
      let is : r.request ≡ record { sid = g.sid; n = g.size; sent = sent } = same r.request g.sid g.size sent r.of r.whole r.then in
      inl (record { table = r.step.cut.table; found = r.step.cut.found; holds = subst (Has r.step.cut.table.waiting) is r.waited })
  | inr later ↦ elim (asked_before (step rows c).rows cs g sent (well_step rows c w) later cause) [
    | inl waits ↦ elim (step_comes rows c g.channel (record { sid = g.sid; n = g.size; sent = sent }) waits) [
      | inl old ↦ inl old
      | inr new ↦ inr (record { place = 0; asked = ap (λ (d : Command). Some d) new.0; accepted = ap (λ (o : Output). Some o) new.1 })
    ]
    | inr asked ↦ inr (record { place = suc asked.place; asked = asked.asked; accepted = asked.accepted })
  ]
]
  where
    same : (v : Waiting) (sid n sent : ℕ) → v.sid ≡ sid → v.n ≡ n → v.sent ≡ sent → v ≡ record { sid = sid; n = n; sent = sent }
    same v sid n sent a b c = rw (← a, ← b, ← c) refl

-- ---- the law

its_at : (cs : List Command) (k ch sid sent : ℕ) (g : Grant) → IsGrantedAt cs k g ch sid sent → its_grant ch sid sent g ≡ true
its_at cs k ch sid sent g r = parts_its ch sid sent g r.channel r.sid_is r.cause

-- a request is accepted once at most, and granted once at most; what is granted was accepted, and is granted whole
pub requests_are_granted_once : RequestsAreGrantedOnce
requests_are_granted_once = record {
  accepted_once = λ cs j k ch sid n m sent a b. once_accepted [] cs j k ch sid n m sent none_well a.asked a.accepted b.asked b.accepted;
  granted_once = λ cs j k ch sid sent g h a b. one_place (its_grant ch sid sent) (grants_from [] cs) j k g h (once_granted [] cs ch sid sent none_well) a.grant b.grant (its_at cs j ch sid sent g a) (its_at cs k ch sid sent h b);
  whole = λ cs k ch sid sent g a. elim (asked_before [] cs g sent none_well (has_at (grants_from [] cs) k g a.grant) a.cause) [
    | inl waits ↦ absurd (let found = waits.found in cc)
    | inr asked ↦ (asked.place, record { asked = asked.asked ∙ ap (λ n. Some (commands.Request n g.sid g.size sent)) a.channel ∙ ap (λ n. Some (commands.Request ch n g.size sent)) a.sid_is; accepted = asked.accepted })
  ];
}
