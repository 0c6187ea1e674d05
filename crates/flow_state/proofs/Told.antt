-- The next due times that flows tell, one after another.
use Rattle.std.proofs.Common.{◌≡◌, ℕ, true, false, cond, List, [], ◌∷◌, map, Option, Some, None, refl, sym, ap, ◌∙◌}
use Rattle.std.proofs.Common.{subst, eqb}
use Rattle.std.specs.List.{find, AllByRecursion}
use Rattle.std.specs.Option.{option_map}
use Rattle.flow_state.specs.declared.flow.Flow.{Flow}
use Rattle.flow_state.specs.declared.flow.FlowKind.{FlowKind}
use Rattle.flow_state.specs.Limits.{due_index, IsDueTime}
use Rattle.flow_state.specs.Rows.{Table, FlowRow, flow_of, is_flow}
use Rattle.flow_state.specs.Changes.{due_in_table, told_due, told_in_table, TellsDue}

-- a flow with its next due time set, where it is of the SID
abbrev pub due_set : ℕ → ℕ → FlowRow → FlowRow
due_set sid due f = cond (is_flow sid f) (record f { index = due_index f.kind due }) f

pub untold : (fs : List FlowRow) → map (told_due []) fs ≡ fs
untold [] = refl
untold (f ∷ fs) = ap (λ (gs : List FlowRow). f ∷ gs) (untold fs)

-- nothing is told
pub none_told : (t : Table) → told_in_table t [] ≡ t
none_told t = ap (λ (fs : List FlowRow). record t { flows = fs }) (untold t.flows)

pub told_after : (s : Flow) (ss : List Flow) (fs : List FlowRow) → map (told_due (s ∷ ss)) fs ≡ map (told_due ss) (map (due_set s.lease.sid s.due) fs)
told_after s ss [] = refl
told_after s ss (f ∷ fs) = ap (λ (gs : List FlowRow). told_due (s ∷ ss) f ∷ gs) (told_after s ss fs)

-- the first of them is told first
pub one_told : (t : Table) (s : Flow) (ss : List Flow) → told_in_table t (s ∷ ss) ≡ told_in_table (due_in_table t s.lease.sid s.due) ss
one_told t s ss = ap (λ (fs : List FlowRow). record t { flows = fs }) (told_after s ss t.flows)

-- ---- the kinds of flows stay

set_sid : (sid due : ℕ) (f : FlowRow) → (due_set sid due f).sid ≡ f.sid
set_sid sid due f = elim (is_flow sid f) as (λ b. (cond b (record f { index = due_index f.kind due }) f).sid ≡ f.sid) [ true ↦ refl | false ↦ refl ]

set_kind : (sid due : ℕ) (f : FlowRow) → (due_set sid due f).kind ≡ f.kind
set_kind sid due f = elim (is_flow sid f) as (λ b. (cond b (record f { index = due_index f.kind due }) f).kind ≡ f.kind) [ true ↦ refl | false ↦ refl ]

found_set : (sid due other : ℕ) (fs : List FlowRow) → find (is_flow other) (map (due_set sid due) fs) ≡ option_map (due_set sid due) (find (is_flow other) fs)
found_set sid due other [] = refl
found_set sid due other (f ∷ fs) =
    ap (λ n. cond (eqb n other) (Some (due_set sid due f)) (find (is_flow other) (map (due_set sid due) fs))) (set_sid sid due f)
    ∙ elim (is_flow other f) as (λ b. cond b (Some (due_set sid due f)) (find (is_flow other) (map (due_set sid due) fs)) ≡ option_map (due_set sid due) (cond b (Some f) (find (is_flow other) fs))) [ true ↦ refl | false ↦ found_set sid due other fs ]

same_kind : (o : Option FlowRow) (sid due : ℕ) (f : FlowRow) (P : FlowKind → Type 0) → option_map (due_set sid due) o ≡ Some f → ((g : FlowRow) → o ≡ Some g → P g.kind) → P f.kind
same_kind (Some g) sid due f P e all = let is : due_set sid due g ≡ f = cc in subst P (sym (set_kind sid due g) ∙ ap (λ (x : FlowRow). x.kind) is) (all g refl)
same_kind None sid due f P e all = absurd cc

tells : (t : Table) (sid due : ℕ) (s : Flow) → TellsDue t s → TellsDue (due_in_table t sid due) s
tells t sid due s h f e = same_kind (flow_of t s.lease.sid) sid due f (λ kind. IsDueTime kind s.due) (sym (found_set sid due s.lease.sid t.flows) ∙ e) h

pub all_tell : (t : Table) (sid due : ℕ) (ss : List Flow) → AllByRecursion (TellsDue t) ss → AllByRecursion (TellsDue (due_in_table t sid due)) ss
all_tell t sid due [] all = tt
all_tell t sid due (s ∷ ss) all = (tells t sid due s all.0, all_tell t sid due ss all.1)
