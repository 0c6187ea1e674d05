-- What is kept of the flows' due times, and the flows that are due.
use Rattle.std.proofs.Common.{◌≡◌, ◌≢◌, ℕ, ◌+◌, ◌<◌, ◌≤◌, Bool, true, false, cond, ◌&&◌, ltb, List, [], ◌∷◌, ◌++◌, map}
use Rattle.std.proofs.Common.{filter, Some, None, refl, sym, ap, subst, ◌∙◌, nat_eq, arith, inl, inr}
use Rattle.std.specs.Prelude.{IsSome, IfSome, IfNone, option_to_list}
use Rattle.std.specs.List.{AllByRecursion, IsDistinct}
use Rattle.std.specs.Map.{set_value, lookup, remove_entry, keys_of}
use Rattle.std.proofs.lemmas.Bool.{eqb-true}
use Rattle.flow_state.specs.declared.dues.Dues.{Dues}
use Rattle.flow_state.specs.declared.flow.Flow.{Flow}
use Rattle.flow_state.specs.Limits.{is_timed, last_sid}
use Rattle.flow_state.specs.Rows.{lent_flow, is_due, due_flows}
use Rattle.flow_state.specs.Sound.{Rise}
use Rattle.flow_state.specs.StoredDues.{IsDueFrom, HasRoom, NoneDue}
use Rattle.flow_state.specs.StoredTable.{AreNoted, is_due_stored, with_next_due, with_sent}
use Rattle.flow_state.specs.View.{flow_view}
use Rattle.flow_state.proofs.Keyed.{All-set_value}
use Rattle.flow_state.proofs.Members.{Has}
use Rattle.flow_state.proofs.Soundness.{all_filter, rise_higher, sids}
use Rattle.flow_state.proofs.Stored.{Flows, AreStored, after_write, all_put, rows, put_entry, keys_are}

abbrev pub keys : Flows → List ℕ
keys es = map (λ e. e.0) es

-- ---- what is kept of other SIDs stays

pub noted_from : (ds other : Dues) (es : Flows) → ((sid due : ℕ) → IsDueFrom ds sid due → IsDueFrom other sid due) → AreNoted ds es → AreNoted other es
noted_from ds other [] kept all = tt
noted_from ds other (e ∷ es) kept all = ((λ is. kept e.0 e.1.due (all.0 is)), noted_from ds other es kept all.1)

-- no entry stands under the SID
pub noted_others : (ds other : Dues) (es : Flows) (sid : ℕ) → lookup (nat_eq sid) es ≡ None → ((k due : ℕ) → k ≢ sid → IsDueFrom ds k due → IsDueFrom other k due) → AreNoted ds es → AreNoted other es
noted_others ds other [] sid none kept all = tt
noted_others ds other (e ∷ es) sid none kept all =
    elim (nat_eq sid e.0) as (λ b. nat_eq sid e.0 ≡ b → cond b (Some e.1) (lookup (nat_eq sid) es) ≡ None → AreNoted other (e ∷ es)) [
      | true ↦ λ f h. absurd cc
      | false ↦ λ f h. ((λ is. kept e.0 e.1.due (grind (arith, f)) (all.0 is)), noted_others ds other es sid h kept all.1)
    ] refl none

-- all stand under greater SIDs
pub noted_above : (ds other : Dues) (es : Flows) (sid high : ℕ) → Rise sid (keys es) high → ((k due : ℕ) → k ≢ sid → IsDueFrom ds k due → IsDueFrom other k due) → AreNoted ds es → AreNoted other es
noted_above ds other es sid high r kept all = by es sid r all (omega arith)
  where
    by : (xs : Flows) (low : ℕ) → Rise low (keys xs) high → AreNoted ds xs → sid ≤ low → AreNoted other xs
    by [] low s a le = tt
    by (x ∷ xs) low s a le = ((λ is. kept x.0 x.1.due (let lt : low < x.0 = s.0 in omega arith) (a.0 is)), by xs x.0 s.2 a.1 (omega (arith, s.0)))

pub noted_filter : (ds : Dues) (p : ℕ × Flow → Bool) (es : Flows) → AreNoted ds es → AreNoted ds (filter p es)
noted_filter ds p es all = all_filter (λ e. is_timed e.1.kind ≡ true → IsDueFrom ds e.0 e.1.due) (λ e. is_timed e.1.kind ≡ true → IsDueFrom ds e.0 e.1.due) p es (λ e k h. h) all

-- a flow in its place, after what is kept of its SID
pub noted_put : (ds other : Dues) (sid : ℕ) (f : Flow) (es : Flows) → lookup (nat_eq sid) es ≡ None → ((k due : ℕ) → k ≢ sid → IsDueFrom ds k due → IsDueFrom other k due)
    → (is_timed f.kind ≡ true → IsDueFrom other sid f.due) → AreNoted ds es → AreNoted other (put_entry sid f es)
noted_put ds other sid f es none kept is all = all_put (λ e. is_timed e.1.kind ≡ true → IsDueFrom other e.0 e.1.due) sid f es (noted_others ds other es sid none kept all) is

-- a flow's next due time, where the flow is there
pub noted_set : (ds other : Dues) (es : Flows) (sid due low high : ℕ) (f : Flow) → Rise low (keys es) high → lookup (nat_eq sid) es ≡ Some f
    → (HasRoom ds sid → IsDueFrom other sid due) → ((k time : ℕ) → k ≢ sid → IsDueFrom ds k time → IsDueFrom other k time) → AreNoted ds es → AreNoted other (set_value (nat_eq sid) es (with_next_due f due))
noted_set ds other [] sid due low high f r e is kept all = absurd cc
noted_set ds other (x ∷ es) sid due low high f r e is kept all =
    elim (nat_eq sid x.0) as (λ b. nat_eq sid x.0 ≡ b → cond b (Some x.1) (lookup (nat_eq sid) es) ≡ Some f → AreNoted other (cond b ((x.0, with_next_due f due) ∷ es) (x ∷ set_value (nat_eq sid) es (with_next_due f due)))) [
      | true ↦ λ h g.
          let same : x.1 ≡ f = cc in
          let here : sid ≡ x.0 = eqb-true sid x.0 h in
          let room : is_timed f.kind ≡ true → HasRoom ds sid = λ t. (let from : IsDueFrom ds x.0 x.1.due = all.0 (ap (λ (y : Flow). is_timed y.kind) same ∙ t) in rw here (from.0.0, from.1.0)) in
          ((λ t. rw (← here) (is (room t))), noted_above ds other es x.0 high r.2 (λ k time apart. kept k time (λ at. apart (at ∙ here))) all.1)
      | false ↦ λ h g. ((λ t. kept x.0 x.1.due (grind (arith, h)) (all.0 t)), noted_set ds other es sid due x.0 high f r.2 g is kept all.1)
    ] refl e

-- a flow that is gone
pub noted_removed : (ds other : Dues) (es : Flows) (sid low high : ℕ) → Rise low (keys es) high → ((k time : ℕ) → k ≢ sid → IsDueFrom ds k time → IsDueFrom other k time) → AreNoted ds es → AreNoted other (remove_entry (nat_eq sid) es)
noted_removed ds other [] sid low high r kept all = tt
noted_removed ds other (x ∷ es) sid low high r kept all =
    elim (nat_eq sid x.0) as (λ b. nat_eq sid x.0 ≡ b → AreNoted other (cond b es (x ∷ remove_entry (nat_eq sid) es))) [
      | true ↦ λ h. let here : sid ≡ x.0 = eqb-true sid x.0 h in noted_above ds other es x.0 high r.2 (λ k time apart. kept k time (λ at. apart (at ∙ here))) all.1
      | false ↦ λ h. ((λ t. kept x.0 x.1.due (grind (arith, h)) (all.0 t)), noted_removed ds other es sid x.0 high r.2 kept all.1)
    ] refl

-- a flow that is written, where it is there
pub noted_due : (ds other : Dues) (es fs : Flows) (sid due low high : ℕ) → Rise low (keys es) high → (HasRoom ds sid → IsDueFrom other sid due) → ((k time : ℕ) → k ≢ sid → IsDueFrom ds k time → IsDueFrom other k time) → AreNoted ds es
    → IfSome (lookup (nat_eq sid) es) (λ f. fs ≡ set_value (nat_eq sid) es (with_next_due f due)) → IfNone (lookup (nat_eq sid) es) (fs ≡ es) → AreNoted other fs
noted_due ds other es fs sid due low high r is kept all some none =
    after_write (AreNoted other) es fs sid (λ f. with_next_due f due) (λ f e. noted_set ds other es sid due low high f r e is kept all) (λ e. noted_others ds other es sid e kept all) some none

pub noted_sent : (ds : Dues) (es fs : Flows) (sid sent : ℕ) → AreNoted ds es → IfSome (lookup (nat_eq sid) es) (λ f. fs ≡ set_value (nat_eq sid) es (with_sent f sent)) → IfNone (lookup (nat_eq sid) es) (fs ≡ es) → AreNoted ds fs
noted_sent ds es fs sid sent all some none =
    after_write (AreNoted ds) es fs sid (λ f. with_sent f sent) (λ f e. All-set_value (λ (x : ℕ × Flow). is_timed x.1.kind ≡ true → IsDueFrom ds x.0 x.1.due) es sid f (with_sent f sent) all e (λ k h. h)) (λ e. all) some none

-- the SIDs of the entries rise
pub keys_rise : (es : Flows) (low high : ℕ) → AreStored es → Rise low (sids (rows es)) high → Rise low (keys es) high
keys_rise es low high all r = subst (λ (ns : List ℕ). Rise low ns high) (sym (keys_are es all)) r

pub keys_all : (es : Flows) (leases : ℕ) → AreStored es → Rise 0 (sids (rows es)) leases → leases ≤ last_sid → Rise 0 (keys es) last_sid
keys_all es leases all r few = rise_higher (keys es) 0 leases last_sid few (keys_rise es 0 leases all r)

distinct : (ns : List ℕ) (low high : ℕ) → Rise low ns high → IsDistinct nat_eq ns
unfolding IsDistinct
distinct [] low high r = tt
distinct (n ∷ ns) low high r = (above ns n high r.2 (omega arith), distinct ns n high r.2)
  where
    above : (xs : List ℕ) (mid most : ℕ) → Rise mid xs most → n ≤ mid → AllByRecursion (λ x. nat_eq n x ≡ false) xs
    above [] mid most s le = tt
    above (x ∷ xs) mid most s le = let more = s.0 in ((let off : nat_eq n x ≡ false = grind (arith, more, le) in off), above xs x most s.2 (omega (arith, more, le)))

-- and so they are distinct
pub keys_apart : (es : Flows) (high : ℕ) → AreStored es → Rise 0 (sids (rows es)) high → IsDistinct nat_eq (keys_of es)
keys_apart es high all r = distinct (keys_of es) 0 high (keys_rise es 0 high all r)

-- what is kept of the SIDs that have a flow stays
pub noted_there : (ds other : Dues) (es : Flows) → ((sid due : ℕ) → IsSome (lookup (nat_eq sid) es) → IsDueFrom ds sid due → IsDueFrom other sid due) → AreNoted ds es → AreNoted other es
noted_there ds other es kept all = by es (λ e h. there es e h) all
  where
    first : (n : ℕ) → nat_eq n n ≡ true
    first n = grind arith

    there : (xs : Flows) (e : ℕ × Flow) → Has xs e → IsSome (lookup (nat_eq e.0) xs)
    there [] e h = absurd h
    there (x ∷ xs) e (inl same) = rw (ap (λ (y : ℕ × Flow). nat_eq y.0 x.0) (sym same) ∙ first x.0) refl
    there (x ∷ xs) e (inr h) = elim (nat_eq e.0 x.0) as (λ b. IsSome (cond b (Some x.1) (lookup (nat_eq e.0) xs))) [ true ↦ refl | false ↦ there xs e h ]

    by : (xs : Flows) → ((e : ℕ × Flow) → Has xs e → IsSome (lookup (nat_eq e.0) es)) → AreNoted ds xs → AreNoted other xs
    by [] is a = tt
    by (x ∷ xs) is a = ((λ t. kept x.0 x.1.due (is x (inl refl)) (a.0 t)), by xs (λ e h. is e (inr h)) a.1)

-- ---- the flows that are due

abbrev pub values : Flows → List Flow
values es = map (λ e. e.1) es

-- those under SIDs below one
abbrev pub below : ℕ → Flows → Flows
below sid es = filter (λ e. ltb e.0 sid) es

abbrev due_in : ℕ → Flows → List Flow
due_in end es = filter (is_due_stored end) (values es)

pub none_left : (es : Flows) (low high sid : ℕ) → Rise low (keys es) high → sid ≤ low + 1 → below sid es ≡ []
none_left [] low high sid r le = refl
none_left (e ∷ es) low high sid r le =
    let more : low < e.0 = r.0 in
    ap (λ b. cond b (e ∷ below sid es) (below sid es)) (let off : ltb e.0 sid ≡ false = grind (arith, more, le) in off) ∙ none_left es e.0 high sid r.2 (omega arith)

absent : (es : Flows) (low high sid : ℕ) → Rise low (keys es) high → sid ≤ low → lookup (nat_eq sid) es ≡ None
absent [] low high sid r le = refl
absent (e ∷ es) low high sid r le =
    let more : low < e.0 = r.0 in
    ap (λ b. cond b (Some e.1) (lookup (nat_eq sid) es)) (let off : nat_eq sid e.0 ≡ false = grind (arith, more, le) in off) ∙ absent es e.0 high sid r.2 (omega arith)

-- a flow that isn't due
not_due : (ds : Dues) (e : ℕ × Flow) (from to end : ℕ) → NoneDue ds from to end → (is_timed e.1.kind ≡ true → IsDueFrom ds e.0 e.1.due) → from ≤ e.0 → e.0 < to → is_due_stored end e.1 ≡ false
not_due ds e from to end none noted ge lt =
    elim (is_timed e.1.kind) as (λ b. is_timed e.1.kind ≡ b → (b && ltb e.1.due end) ≡ false) [
      | true ↦ λ t. let late : end ≤ e.1.due = none e.0 e.1.due ge lt (noted t) in grind (arith, late)
      | false ↦ λ t. refl
    ] refl

-- one SID more
pub next_due : (ds : Dues) (es : Flows) (low high from sid end : ℕ) → Rise low (keys es) high → AreNoted ds es → from ≤ sid → NoneDue ds from sid end
    → due_in end (below (sid + 1) es) ≡ due_in end (below from es) ++ filter (is_due_stored end) (option_to_list (lookup (nat_eq sid) es))
next_due ds [] low high from sid end r noted le none = refl
next_due ds (e ∷ es) low high from sid end r noted le none =
    by (ltb e.0 from) (ltb e.0 (sid + 1)) (nat_eq sid e.0) refl refl refl (next_due ds es e.0 high from sid end r.2 noted.1 le none)
  where
    -- a flow in front, on both sides
    front : (b : Bool) (xs ys zs : List Flow) → xs ≡ ys ++ zs → cond b (e.1 ∷ xs) xs ≡ cond b (e.1 ∷ ys) ys ++ zs
    front true xs ys zs h = ap (λ (fs : List Flow). e.1 ∷ fs) h
    front false xs ys zs h = h

    by : (b c d : Bool) → ltb e.0 from ≡ b → ltb e.0 (sid + 1) ≡ c → nat_eq sid e.0 ≡ d
        → due_in end (below (sid + 1) es) ≡ due_in end (below from es) ++ filter (is_due_stored end) (option_to_list (lookup (nat_eq sid) es))
        → due_in end (cond c (e ∷ below (sid + 1) es) (below (sid + 1) es)) ≡ due_in end (cond b (e ∷ below from es) (below from es)) ++ filter (is_due_stored end) (option_to_list (cond d (Some e.1) (lookup (nat_eq sid) es)))
    by true true false f g h rest = front (is_due_stored end e.1) _ _ _ rest
    by true c true f g h rest = absurd (let lt : e.0 < from = grind (arith, f) in let at : sid ≡ e.0 = eqb-true sid e.0 h in omega arith)
    by true false d f g h rest = absurd (let lt : e.0 < from = grind (arith, f) in let ge : sid + 1 ≤ e.0 = grind (arith, g) in omega arith)
    by false true false f g h rest =
        let ge : from ≤ e.0 = grind (arith, f) in
        let lt : e.0 < sid = grind (arith, g, h) in
        ap (λ b. cond b (e.1 ∷ due_in end (below (sid + 1) es)) (due_in end (below (sid + 1) es))) (not_due ds e from sid end none noted.0 ge lt) ∙ rest
    by false true true f g h rest =
        let here : sid ≡ e.0 = eqb-true sid e.0 h in
        let later : below (sid + 1) es ≡ [] = none_left es e.0 high (sid + 1) r.2 (omega arith) in
        let sooner : below from es ≡ [] = none_left es e.0 high from r.2 (omega arith) in
        rw (later, sooner) refl
    by false false false f g h rest =
        let ge : sid + 1 ≤ e.0 = grind (arith, g) in
        let later : below (sid + 1) es ≡ [] = none_left es e.0 high (sid + 1) r.2 (omega arith) in
        let sooner : below from es ≡ [] = none_left es e.0 high from r.2 (omega arith) in
        let none_there : lookup (nat_eq sid) es ≡ None = absent es e.0 high sid r.2 (omega arith) in
        rw (later, sooner, none_there) refl
    by false false true f g h rest = absurd (let at : sid ≡ e.0 = eqb-true sid e.0 h in let ge : sid + 1 ≤ e.0 = grind (arith, g) in omega arith)

-- all of them
pub all_due : (ds : Dues) (es : Flows) (low high from end : ℕ) → Rise low (keys es) high → AreNoted ds es → NoneDue ds from (high + 1) end → due_in end (below from es) ≡ due_in end es
all_due ds [] low high from end r noted none = refl
all_due ds (e ∷ es) low high from end r noted none =
    elim (ltb e.0 from) as (λ b. ltb e.0 from ≡ b → due_in end (cond b (e ∷ below from es) (below from es)) ≡ due_in end (e ∷ es)) [
      | true ↦ λ f. ap (λ (fs : List Flow). cond (is_due_stored end e.1) (e.1 ∷ fs) fs) (all_due ds es e.0 high from end r.2 noted.1 none)
      | false ↦ λ f.
          let ge : from ≤ e.0 = grind (arith, f) in
          let most : e.0 ≤ high = r.1 in
          all_due ds es e.0 high from end r.2 noted.1 none
          ∙ ap (λ b. cond b (e.1 ∷ due_in end es) (due_in end es)) (sym (not_due ds e from (high + 1) end none noted.0 ge (omega arith)))
    ] refl

-- the rows of those that are due, as they are lent
pub due_rows : (end : ℕ) (es : Flows) → AreStored es → filter (is_due_stored end) (values es) ≡ map lent_flow (due_flows end (rows es))
due_rows end [] all = refl
due_rows end (e ∷ es) all =
    let lent : e.1 ≡ lent_flow (flow_view e.1) = ap (λ d. record e.1 { due = d }) all.0.due in
    let same : is_due_stored end e.1 ≡ is_due end (flow_view e.1) = ap (λ d. is_timed e.1.kind && ltb d end) all.0.due in
    ap (λ b. cond b (e.1 ∷ due_in end es) (due_in end es)) same
    ∙ elim (is_due end (flow_view e.1)) as (λ b. cond b (e.1 ∷ due_in end es) (due_in end es) ≡ map lent_flow (cond b (flow_view e.1 ∷ due_flows end (rows es)) (due_flows end (rows es)))) [
      | true ↦ ap (λ (f : Flow). f ∷ due_in end es) lent ∙ ap (λ (fs : List Flow). lent_flow (flow_view e.1) ∷ fs) (due_rows end es all.1)
      | false ↦ due_rows end es all.1
    ]
