-- Flows that stand one below their SIDs.
use Rattle.std.proofs.Common.{◌≡◌, ℕ, zero, suc, ◌+◌, ◌-◌, ◌<◌, ◌≤◌, true, false, cond, not, leb, ltb, List, [], ◌∷◌}
use Rattle.std.proofs.Common.{◌++◌, filter, length, take, drop, add-one, slice_get, Option, Some, None, refl, sym, ap}
use Rattle.std.proofs.Common.{subst, ◌∙◌, nat_eq, arith}
use Rattle.std.specs.List.{range_with_len}
use Rattle.std.specs.Map.{set_value, lookup, remove_entry, keys_of}
use Rattle.std.specs.Prelude.{IsSome, OnOk, Result, Ok, Err}
use Rattle.std.specs.Result.{is_ok}
use Rattle.indexmap.specs.IndexMap.{set_value_at, with_value_at}
use Rattle.flow_state.specs.declared.flow.Flow.{Flow}
use Rattle.flow_state.specs.StoredTable.{EndFrom}
use Rattle.flow_state.specs.StoredFlows.{Places, BySid, IsBySid, there, flow_at, by_sid, place_of, is_ended_flow}
use Rattle.flow_state.specs.declared.by_sid.FlowsBySid.TheInside.{Inside}

abbrev pub Flows : Type 0
Flows = List (ℕ × Flow)

-- the SIDs are those from one on
abbrev pub From : ℕ → Places → Type 0
From low [] = Unit {0}
From low (p ∷ ps) = (p.0 ≡ low) × From (low + 1) ps

pub from : (ps : Places) (low : ℕ) → keys_of ps ≡ range_with_len low (length ps) → From low ps
from [] low e = tt
from (p ∷ ps) low e = let first : p.0 ≡ low = cc in let rest : keys_of ps ≡ range_with_len (low + 1) (length ps) = cc in (first, from ps (low + 1) rest)

pub keys_from : (ps : Places) (low : ℕ) → From low ps → keys_of ps ≡ range_with_len low (length ps)
keys_from [] low r = refl
keys_from (p ∷ ps) low r = ap (λ n. n ∷ keys_of ps) r.0 ∙ ap (λ (ns : List ℕ). low ∷ ns) (keys_from ps (low + 1) r.1)

-- ---- a place and its SID

pub sid_is : (sid places : ℕ) → place_of sid < places → places < 65535 → 1 + place_of sid ≡ sid
sid_is sid places lt few =
    elim (ltb 0 sid) as (λ b. ltb 0 sid ≡ b → cond b (sid - 1) 65535 < places → 1 + cond b (sid - 1) 65535 ≡ sid) [
      | true ↦ λ e l. let some : 1 ≤ sid = grind (arith, e) in omega arith
      | false ↦ λ e l. absurd (omega arith)
    ] refl lt

-- no flow stands under a lower SID
below : (ps : Places) (low sid : ℕ) → From low ps → sid < low → lookup (nat_eq sid) (there ps) ≡ None
below [] low sid r lt = refl
below ((s, Some f) ∷ ps) low sid r lt =
    ap (λ b. cond b (Some f) (lookup (nat_eq sid) (there ps))) (let at = r.0 in let off : nat_eq sid s ≡ false = grind (arith, at, lt) in off) ∙ below ps (low + 1) sid r.1 (omega arith)
below ((s, None) ∷ ps) low sid r lt = below ps (low + 1) sid r.1 (omega arith)

next : (low k : ℕ) → low + suc k ≡ low + 1 + k
next low k = omega arith

found_from : (ps : Places) (low k : ℕ) → From low ps → lookup (nat_eq (low + k)) (there ps) ≡ flow_at ps k
found_from [] low k r = refl
found_from ((s, Some f) ∷ ps) low zero r = ap (λ b. cond b (Some f) (lookup (nat_eq (low + 0)) (there ps))) (let at = r.0 in let on : nat_eq (low + 0) s ≡ true = grind (arith, at) in on)
found_from ((s, None) ∷ ps) low zero r = below ps (low + 1) (low + 0) r.1 (omega arith)
found_from ((s, Some f) ∷ ps) low (suc k) r =
    ap (λ b. cond b (Some f) (lookup (nat_eq (low + suc k)) (there ps))) (let at = r.0 in let off : nat_eq (low + suc k) s ≡ false = grind (arith, at) in off)
    ∙ ap (λ n. lookup (nat_eq n) (there ps)) (next low k) ∙ found_from ps (low + 1) k r.1
found_from ((s, None) ∷ ps) low (suc k) r = ap (λ n. lookup (nat_eq n) (there ps)) (next low k) ∙ found_from ps (low + 1) k r.1

behind : (ps : Places) (k : ℕ) → length ps ≤ k → flow_at ps k ≡ None
behind [] k le = refl
behind (p ∷ ps) zero le = absurd (omega arith)
behind (p ∷ ps) (suc k) le = behind ps k (omega arith)

-- the flow of a SID stands at its place
pub found : (ps : Places) (sid : ℕ) → keys_of ps ≡ range_with_len 1 (length ps) → length ps < 65535 → lookup (nat_eq sid) (there ps) ≡ flow_at ps (place_of sid)
found ps zero given few = below ps 1 0 (from ps 1 given) (omega arith) ∙ sym (behind ps 65535 (omega arith))
found ps (suc n) given few =
    let at : place_of (suc n) ≡ n = (let on : ltb 0 (suc n) ≡ true = grind arith in ap (λ b. cond b (suc n - 1) 65535) on ∙ (let less : suc n - 1 ≡ n = omega arith in less)) in
    ap (λ m. lookup (nat_eq m) (there ps)) (let more : suc n ≡ 1 + n = omega arith in more) ∙ found_from ps 1 n (from ps 1 given) ∙ ap (flow_at ps) (sym at)

-- ---- what is written

written_from : (ps : Places) (low k : ℕ) (f g : Flow) → From low ps → flow_at ps k ≡ Some f → there (set_value_at ps k (Some g)) ≡ set_value (nat_eq (low + k)) (there ps) g
written_from [] low k f g r e = absurd cc
written_from ((s, Some h) ∷ ps) low zero f g r e =
    ap (λ b. cond b ((s, g) ∷ there ps) ((s, h) ∷ set_value (nat_eq (low + 0)) (there ps) g)) (let at = r.0 in let on : true ≡ nat_eq (low + 0) s = grind (arith, at) in on)
written_from ((s, None) ∷ ps) low zero f g r e = absurd cc
written_from ((s, Some h) ∷ ps) low (suc k) f g r e =
    ap (λ (es : Flows). (s, h) ∷ es) (written_from ps (low + 1) k f g r.1 e ∙ ap (λ n. set_value (nat_eq n) (there ps) g) (sym (next low k)))
    ∙ ap (λ b. cond b ((s, g) ∷ there ps) ((s, h) ∷ set_value (nat_eq (low + suc k)) (there ps) g)) (let at = r.0 in let off : false ≡ nat_eq (low + suc k) s = grind (arith, at) in off)
written_from ((s, None) ∷ ps) low (suc k) f g r e = written_from ps (low + 1) k f g r.1 e ∙ ap (λ n. set_value (nat_eq n) (there ps) g) (sym (next low k))

unremoved : (ps : Places) (low sid : ℕ) → From low ps → sid < low → remove_entry (nat_eq sid) (there ps) ≡ there ps
unremoved [] low sid r lt = refl
unremoved ((s, Some f) ∷ ps) low sid r lt =
    ap (λ b. cond b (there ps) ((s, f) ∷ remove_entry (nat_eq sid) (there ps))) (let at = r.0 in let off : nat_eq sid s ≡ false = grind (arith, at, lt) in off)
    ∙ ap (λ (es : Flows). (s, f) ∷ es) (unremoved ps (low + 1) sid r.1 (omega arith))
unremoved ((s, None) ∷ ps) low sid r lt = unremoved ps (low + 1) sid r.1 (omega arith)

emptied_from : (ps : Places) (low k : ℕ) → From low ps → there (set_value_at ps k None) ≡ remove_entry (nat_eq (low + k)) (there ps)
emptied_from [] low k r = refl
emptied_from ((s, Some h) ∷ ps) low zero r =
    ap (λ b. cond b (there ps) ((s, h) ∷ remove_entry (nat_eq (low + 0)) (there ps))) (let at = r.0 in let on : true ≡ nat_eq (low + 0) s = grind (arith, at) in on)
emptied_from ((s, None) ∷ ps) low zero r = sym (unremoved ps (low + 1) (low + 0) r.1 (omega arith))
emptied_from ((s, Some h) ∷ ps) low (suc k) r =
    ap (λ (es : Flows). (s, h) ∷ es) (emptied_from ps (low + 1) k r.1 ∙ ap (λ n. remove_entry (nat_eq n) (there ps)) (sym (next low k)))
    ∙ ap (λ b. cond b (there ps) ((s, h) ∷ remove_entry (nat_eq (low + suc k)) (there ps))) (let at = r.0 in let off : false ≡ nat_eq (low + suc k) s = grind (arith, at) in off)
emptied_from ((s, None) ∷ ps) low (suc k) r = emptied_from ps (low + 1) k r.1 ∙ ap (λ n. remove_entry (nat_eq n) (there ps)) (sym (next low k))

-- where no flow is, none is taken out
pub unfound_kept : (es : Flows) (sid : ℕ) → lookup (nat_eq sid) es ≡ None → remove_entry (nat_eq sid) es ≡ es
unfound_kept [] sid none = refl
unfound_kept (e ∷ es) sid none =
    elim (nat_eq sid e.0) as (λ b. cond b (Some e.1) (lookup (nat_eq sid) es) ≡ None → cond b es (e ∷ remove_entry (nat_eq sid) es) ≡ e ∷ es) [
      | true ↦ λ h. absurd cc
      | false ↦ λ h. ap (λ (fs : Flows). e ∷ fs) (unfound_kept es sid h)
    ] none

abbrev pub put_in : ℕ → Flow → Flows → Flows
put_in sid f es = filter (λ e. leb e.0 sid) es ++ (sid, f) ∷ filter (λ e. not (leb e.0 sid)) es

all_above : (ps : Places) (low sid : ℕ) → From low ps → sid < low → (filter (λ e. leb e.0 sid) (there ps) ≡ []) × (filter (λ e. not (leb e.0 sid)) (there ps) ≡ there ps)
all_above [] low sid r lt = (refl, refl)
all_above ((s, Some f) ∷ ps) low sid r lt =
    let rest = all_above ps (low + 1) sid r.1 (omega arith) in
    let at = r.0 in
    let off : leb s sid ≡ false = grind (arith, at, lt) in (
      ap (λ b. cond b ((s, f) ∷ filter (λ e. leb e.0 sid) (there ps)) (filter (λ e. leb e.0 sid) (there ps))) off ∙ rest.0,
      ap (λ b. cond (not b) ((s, f) ∷ filter (λ e. not (leb e.0 sid)) (there ps)) (filter (λ e. not (leb e.0 sid)) (there ps))) off ∙ ap (λ (es : Flows). (s, f) ∷ es) rest.1,
    )
all_above ((s, None) ∷ ps) low sid r lt = all_above ps (low + 1) sid r.1 (omega arith)

-- one in front of what is put
put_before : (s sid : ℕ) (f g : Flow) (es : Flows) → s ≤ sid → (s, f) ∷ put_in sid g es ≡ put_in sid g ((s, f) ∷ es)
put_before s sid f g es le =
    let on : true ≡ leb s sid = grind (arith, le) in
    ap (λ b. cond b ((s, f) ∷ filter (λ e. leb e.0 sid) es) (filter (λ e. leb e.0 sid) es) ++ (sid, g) ∷ cond (not b) ((s, f) ∷ filter (λ e. not (leb e.0 sid)) es) (filter (λ e. not (leb e.0 sid)) es)) on

put_front : (ps : Places) (low sid : ℕ) (g : Flow) → From low ps → sid < low → (sid, g) ∷ there ps ≡ put_in sid g (there ps)
put_front ps low sid g r lt =
    let parts = all_above ps low sid r lt in
    ap (λ (es : Flows). (sid, g) ∷ es) (sym parts.1) ∙ ap (λ (es : Flows). es ++ (sid, g) ∷ filter (λ e. not (leb e.0 sid)) (there ps)) (sym parts.0)

filled_from : (ps : Places) (low k : ℕ) (g : Flow) → From low ps → k < length ps → flow_at ps k ≡ None → there (set_value_at ps k (Some g)) ≡ put_in (low + k) g (there ps)
filled_from [] low k g r lt e = absurd (omega arith)
filled_from ((s, Some h) ∷ ps) low zero g r lt e = absurd cc
filled_from ((s, None) ∷ ps) low zero g r lt e =
    ap (λ n. (n, g) ∷ there ps) (let at = r.0 in let same : s ≡ low + 0 = omega (arith, at) in same) ∙ put_front ps (low + 1) (low + 0) g r.1 (omega arith)
filled_from ((s, Some h) ∷ ps) low (suc k) g r lt e =
    ap (λ (es : Flows). (s, h) ∷ es) (filled_from ps (low + 1) k g r.1 (omega arith) e) ∙ ap (λ n. (s, h) ∷ put_in n g (there ps)) (sym (next low k)) ∙ put_before s (low + suc k) h g (there ps) (let at = r.0 in omega (arith, at))
filled_from ((s, None) ∷ ps) low (suc k) g r lt e = filled_from ps (low + 1) k g r.1 (omega arith) e ∙ ap (λ n. put_in n g (there ps)) (sym (next low k))

added_from : (ps : Places) (low : ℕ) (g : Flow) → From low ps → there (ps ++ (low + length ps, Some g) ∷ []) ≡ put_in (low + length ps) g (there ps)
added_from [] low g r = refl
added_from ((s, Some h) ∷ ps) low g r =
    ap (λ n. (s, h) ∷ there (ps ++ (n, Some g) ∷ [])) (next low (length ps)) ∙ ap (λ (es : Flows). (s, h) ∷ es) (added_from ps (low + 1) g r.1)
    ∙ ap (λ n. (s, h) ∷ put_in n g (there ps)) (sym (next low (length ps))) ∙ put_before s (low + suc (length ps)) h g (there ps) (let at = r.0 in omega (arith, at))
added_from ((s, None) ∷ ps) low g r =
    ap (λ n. there (ps ++ (n, Some g) ∷ [])) (next low (length ps)) ∙ added_from ps (low + 1) g r.1 ∙ ap (λ n. put_in n g (there ps)) (sym (next low (length ps)))

-- one SID more
pub from_added : (ps : Places) (low : ℕ) (g : Option Flow) → From low ps → From low (ps ++ (low + length ps, g) ∷ [])
from_added [] low g r = (let same : low + 0 ≡ low = omega arith in same, tt)
from_added (p ∷ ps) low g r = (r.0, subst (λ n. From (low + 1) (ps ++ (n, g) ∷ [])) (sym (next low (length ps))) (from_added ps (low + 1) g r.1))

-- ---- by SID

module _ (ps : Places) (sid : ℕ) (given : keys_of ps ≡ range_with_len 1 (length ps)) (few : length ps < 65535) where
  pub written : (f g : Flow) → flow_at ps (place_of sid) ≡ Some f → place_of sid < length ps → there (set_value_at ps (place_of sid) (Some g)) ≡ set_value (nat_eq sid) (there ps) g
  written f g e lt = written_from ps 1 (place_of sid) f g (from ps 1 given) e ∙ ap (λ n. set_value (nat_eq n) (there ps) g) (sid_is sid (length ps) lt few)

  pub emptied : place_of sid < length ps → there (set_value_at ps (place_of sid) None) ≡ remove_entry (nat_eq sid) (there ps)
  emptied lt = emptied_from ps 1 (place_of sid) (from ps 1 given) ∙ ap (λ n. remove_entry (nat_eq n) (there ps)) (sid_is sid (length ps) lt few)

pub filled : (ps : Places) (k : ℕ) (g : Flow) → keys_of ps ≡ range_with_len 1 (length ps) → k < length ps → flow_at ps k ≡ None → there (set_value_at ps k (Some g)) ≡ put_in (1 + k) g (there ps)
filled ps k g given lt e = filled_from ps 1 k g (from ps 1 given) lt e

pub added : (ps : Places) (g : Flow) → keys_of ps ≡ range_with_len 1 (length ps) → there (ps ++ (1 + length ps, Some g) ∷ []) ≡ put_in (1 + length ps) g (there ps)
added ps g given = added_from ps 1 g (from ps 1 given)

-- ---- those whose leases ended

-- the first places, emptied of these
abbrev pub cleared : ℕ → ℕ → Places → Places
cleared end zero ps = ps
cleared end (suc k) [] = []
cleared end (suc k) (p ∷ ps) = (p.0, cond (is_ended_flow end p.1) None p.1) ∷ cleared end k ps

clear_on : (end k : ℕ) (ps : Places) → is_ended_flow end (flow_at (cleared end k ps) k) ≡ true → set_value_at (cleared end k ps) k None ≡ cleared end (suc k) ps
clear_on end zero [] h = absurd cc
clear_on end (suc k) [] h = absurd cc
clear_on end zero (p ∷ ps) h = ap (λ (o : Option Flow). (p.0, o) ∷ ps) (ap (λ b. cond b None p.1) (sym h))
clear_on end (suc k) (p ∷ ps) h = ap (λ (qs : Places). (p.0, cond (is_ended_flow end p.1) None p.1) ∷ qs) (clear_on end k ps h)

clear_off : (end k : ℕ) (ps : Places) → is_ended_flow end (flow_at (cleared end k ps) k) ≡ false → cleared end k ps ≡ cleared end (suc k) ps
clear_off end zero [] h = refl
clear_off end (suc k) [] h = refl
clear_off end zero (p ∷ ps) h = ap (λ (o : Option Flow). (p.0, o) ∷ ps) (ap (λ b. cond b None p.1) (sym h))
clear_off end (suc k) (p ∷ ps) h = ap (λ (qs : Places). (p.0, cond (is_ended_flow end p.1) None p.1) ∷ qs) (clear_off end k ps h)

pub cleared_on : (end k : ℕ) (ps : Places) → is_ended_flow end (flow_at (cleared end k ps) k) ≡ true → set_value_at (cleared end k ps) k None ≡ cleared end (k + 1) ps
cleared_on end k ps h = rw add-one (clear_on end k ps h)

pub cleared_off : (end k : ℕ) (ps : Places) → is_ended_flow end (flow_at (cleared end k ps) k) ≡ false → cleared end k ps ≡ cleared end (k + 1) ps
cleared_off end k ps h = rw add-one (clear_off end k ps h)

pub cleared_keys : (end k : ℕ) (ps : Places) → keys_of (cleared end k ps) ≡ keys_of ps
cleared_keys end zero ps = refl
cleared_keys end (suc k) [] = refl
cleared_keys end (suc k) (p ∷ ps) = ap (λ (ns : List ℕ). p.0 ∷ ns) (cleared_keys end k ps)

pub cleared_all : (end k : ℕ) (ps : Places) → length ps ≤ k → there (cleared end k ps) ≡ filter (λ e. leb end e.1.lease.last) (there ps)
cleared_all end zero [] le = refl
cleared_all end (suc k) [] le = refl
cleared_all end zero (p ∷ ps) le = absurd (omega (arith, le))
cleared_all end (suc k) ((s, None) ∷ ps) le = cleared_all end k ps (omega (arith, le))
cleared_all end (suc k) ((s, Some f) ∷ ps) le =
    elim (ltb f.lease.last end) as (λ b. ltb f.lease.last end ≡ b → there ((s, cond b None (Some f)) ∷ cleared end k ps) ≡ filter (λ e. leb end e.1.lease.last) ((s, f) ∷ there ps)) [
      | true ↦ λ h. cleared_all end k ps (omega (arith, le)) ∙ ap (λ b. cond b ((s, f) ∷ filter (λ e. leb end e.1.lease.last) (there ps)) (filter (λ e. leb end e.1.lease.last) (there ps))) (let off : false ≡ leb end f.lease.last = grind (arith, h) in off)
      | false ↦ λ h.
          ap (λ (es : Flows). (s, f) ∷ es) (cleared_all end k ps (omega (arith, le)))
          ∙ ap (λ b. cond b ((s, f) ∷ filter (λ e. leb end e.1.lease.last) (there ps)) (filter (λ e. leb end e.1.lease.last) (there ps))) (let on : true ≡ leb end f.lease.last = grind (arith, h) in on)
    ] refl

-- ---- the first end

ends_step : (ps : Places) (k first least : ℕ) → least ≤ first → ((f : Flow) → flow_at ps k ≡ Some f → least ≤ f.lease.last) → EndFrom first (there (take k ps)) → EndFrom least (there (take (suc k) ps))
ends_step [] zero first least le one all = tt
ends_step [] (suc k) first least le one all = tt
ends_step ((s, None) ∷ ps) zero first least le one all = tt
ends_step ((s, Some f) ∷ ps) zero first least le one all = (one f refl, tt)
ends_step ((s, None) ∷ ps) (suc k) first least le one all = ends_step ps k first least le one all
ends_step ((s, Some f) ∷ ps) (suc k) first least le one all = (omega (arith, all.0, le), ends_step ps k first least le one all.1)

pub ends_next : (ps : Places) (k first least : ℕ) → least ≤ first → ((f : Flow) → flow_at ps k ≡ Some f → least ≤ f.lease.last) → EndFrom first (there (take k ps)) → EndFrom least (there (take (k + 1) ps))
ends_next ps k first least le one all = rw add-one (ends_step ps k first least le one all)

-- ---- flows by number

drop_step : (ps : Places) (k : ℕ) → flow_at ps k ≡ None → there (drop k ps) ≡ there (drop (suc k) ps)
drop_step [] zero h = refl
drop_step [] (suc k) h = refl
drop_step ((s, None) ∷ ps) zero h = refl
drop_step ((s, Some f) ∷ ps) zero h = absurd cc
drop_step (p ∷ ps) (suc k) h = drop_step ps k h

pub dropped_none : (ps : Places) (k : ℕ) → flow_at ps k ≡ None → there (drop k ps) ≡ there (drop (k + 1) ps)
dropped_none ps k h = rw add-one (drop_step ps k h)

drop_some : (ps : Places) (k : ℕ) (f : Flow) → flow_at ps k ≡ Some f → (s : ℕ) × (there (drop k ps) ≡ (s, f) ∷ there (drop (suc k) ps))
drop_some [] k f h = absurd cc
drop_some ((s, None) ∷ ps) zero f h = absurd cc
drop_some ((s, Some g) ∷ ps) zero f h = let same : g ≡ f = cc in (s, ap (λ (x : Flow). (s, x) ∷ there ps) same)
drop_some (p ∷ ps) (suc k) f h = drop_some ps k f h

pub dropped_some : (ps : Places) (k : ℕ) (f : Flow) → flow_at ps k ≡ Some f → (s : ℕ) × (there (drop k ps) ≡ (s, f) ∷ there (drop (k + 1) ps))
dropped_some ps k f h = rw add-one (drop_some ps k f h)

-- ---- what a write leaves

pub keys_written : (ps : Places) (k : ℕ) (w : Option Flow) → keys_of (set_value_at ps k w) ≡ keys_of ps
keys_written [] k w = refl
keys_written (p ∷ ps) zero w = refl
keys_written (p ∷ ps) (suc k) w = ap (λ (ns : List ℕ). p.0 ∷ ns) (keys_written ps k w)

pub places_written : (ps : Places) (k : ℕ) (w : Option Flow) → length (set_value_at ps k w) ≡ length ps
places_written [] k w = refl
places_written (p ∷ ps) zero w = refl
places_written (p ∷ ps) (suc k) w = ap suc (places_written ps k w)

pub given_written : (ps : Places) (k : ℕ) (w : Option Flow) → keys_of ps ≡ range_with_len 1 (length ps) → keys_of (set_value_at ps k w) ≡ range_with_len 1 (length (set_value_at ps k w))
given_written ps k w given = keys_written ps k w ∙ given ∙ ap (range_with_len 1) (sym (places_written ps k w))

-- where a flow is, there is a place
pub within : (ps : Places) (k : ℕ) → IsSome (flow_at ps k) → k < length ps
within [] k h = absurd cc
within (p ∷ ps) zero h = omega arith
within (p ∷ ps) (suc k) h = let rest = within ps k h in omega arith

-- a stored table of flows, and what it means
module _ (a : Inside) (now : BySid) (kept : IsBySid a) (view : by_sid a ≡ now) where
  pub found_now : (sid : ℕ) → flow_at a.places.entries (place_of sid) ≡ lookup (nat_eq sid) now.entries
  found_now sid = sym (found a.places.entries sid kept.given kept.few) ∙ ap (λ (m : BySid). lookup (nat_eq sid) m.entries) view

  pub within_now : (sid : ℕ) → IsSome (lookup (nat_eq sid) now.entries) → place_of sid < length a.places.entries
  within_now sid h = within a.places.entries (place_of sid) (subst (λ (o : Option Flow). IsSome o) (sym (found_now sid)) h)

  pub written_now : (sid : ℕ) (g : Flow) → IsSome (lookup (nat_eq sid) now.entries) → there (set_value_at a.places.entries (place_of sid) (Some g)) ≡ set_value (nat_eq sid) now.entries g
  written_now sid g h = by (lookup (nat_eq sid) now.entries) refl h
    where
      by : (o : Option Flow) → lookup (nat_eq sid) now.entries ≡ o → IsSome o → there (set_value_at a.places.entries (place_of sid) (Some g)) ≡ set_value (nat_eq sid) now.entries g
      by None e some = absurd cc
      by (Some f) e some =
          written a.places.entries sid kept.given kept.few f g (found_now sid ∙ e) (within_now sid h)
          ∙ ap (λ (m : BySid). set_value (nat_eq sid) m.entries g) view

  pub emptied_now : (sid : ℕ) → IsSome (lookup (nat_eq sid) now.entries) → there (set_value_at a.places.entries (place_of sid) None) ≡ remove_entry (nat_eq sid) now.entries
  emptied_now sid h = emptied a.places.entries sid kept.given kept.few (within_now sid h) ∙ ap (λ (m : BySid). remove_entry (nat_eq sid) m.entries) view

  pub kept_written : (k : ℕ) (w : Option Flow) → IsBySid (record { places = with_value_at a.places k w })
  kept_written k w = record { given = given_written a.places.entries k w kept.given; few = subst (λ n. n < 65535) (sym (places_written a.places.entries k w)) kept.few }

  pub sids_written : (k : ℕ) (w : Option Flow) → length (set_value_at a.places.entries k w) ≡ now.sids
  sids_written k w = places_written a.places.entries k w ∙ ap (λ (m : BySid). m.sids) view

-- ---- what loops take

pub ends_some : (ps : Places) (k first least : ℕ) (f : Flow) → flow_at ps k ≡ Some f → least ≤ f.lease.last → least ≤ first → EndFrom first (there (take k ps)) → EndFrom least (there (take (k + 1) ps))
ends_some ps k first least f at last le all = ends_next ps k first least le (λ g e. let same : f ≡ g = cc in subst (λ (x : Flow). least ≤ x.lease.last) same last) all

pub ends_none : (ps : Places) (k first : ℕ) → flow_at ps k ≡ None → EndFrom first (there (take k ps)) → EndFrom first (there (take (k + 1) ps))
ends_none ps k first at all = ends_next ps k first first (omega arith) (λ g e. absurd cc) all

pub later : (e : ℕ × Flow) (es : Flows) (n : ℕ) → 1 ≤ n → slice_get (e ∷ es) n ≡ slice_get es (n - 1)
later e es zero le = absurd (omega (arith, le))
later e es (suc n) le = ap (slice_get es) (let less : n ≡ suc n - 1 = omega arith in less)

-- ---- a flow that is put

pub empty_at : (ps : Places) (sid k : ℕ) → 1 + k ≡ sid → keys_of ps ≡ range_with_len 1 (length ps) → lookup (nat_eq sid) (there ps) ≡ None → flow_at ps k ≡ None
empty_at ps sid k is given none = sym (found_from ps 1 k (from ps 1 given)) ∙ ap (λ n. lookup (nat_eq n) (there ps)) is ∙ none

unplaced : (ps : Places) (low : ℕ) → From low ps → lookup (nat_eq (low + length ps)) ps ≡ None
unplaced [] low r = refl
unplaced (p ∷ ps) low r =
    ap (λ b. cond b (Some p.1) (lookup (nat_eq (low + suc (length ps))) ps)) (let at = r.0 in let off : nat_eq (low + suc (length ps)) p.0 ≡ false = grind (arith, at) in off)
    ∙ ap (λ n. lookup (nat_eq n) ps) (next low (length ps)) ∙ unplaced ps (low + 1) r.1

pub no_place : (ps : Places) (sid : ℕ) → 1 + length ps ≡ sid → keys_of ps ≡ range_with_len 1 (length ps) → lookup (nat_eq sid) ps ≡ None
no_place ps sid is given = ap (λ n. lookup (nat_eq n) ps) (sym is) ∙ unplaced ps 1 (from ps 1 given)

pub put_there : (ps : Places) (sid k : ℕ) (g : Flow) → 1 + k ≡ sid → keys_of ps ≡ range_with_len 1 (length ps) → k < length ps → lookup (nat_eq sid) (there ps) ≡ None → there (set_value_at ps k (Some g)) ≡ put_in sid g (there ps)
put_there ps sid k g is given lt none = filled ps k g given lt (empty_at ps sid k is given none) ∙ ap (λ n. put_in n g (there ps)) is

pub put_behind : (ps : Places) (sid : ℕ) (g : Flow) → 1 + length ps ≡ sid → keys_of ps ≡ range_with_len 1 (length ps) → there (ps ++ (sid, Some g) ∷ []) ≡ put_in sid g (there ps)
put_behind ps sid g is given = ap (λ n. there (ps ++ (n, Some g) ∷ [])) (sym is) ∙ added ps g given ∙ ap (λ n. put_in n g (there ps)) is

length_pushed : (ps : Places) (p : ℕ × Option Flow) → length (ps ++ p ∷ []) ≡ length ps + 1
length_pushed [] p = refl
length_pushed (q ∷ ps) p = let rest = length_pushed ps p in omega (arith, rest)

pub sids_behind : (ps : Places) (sid : ℕ) (g : Option Flow) → 1 + length ps ≡ sid → length (ps ++ (sid, g) ∷ []) ≡ sid
sids_behind ps sid g is = length_pushed ps (sid, g) ∙ (let same : length ps + 1 ≡ sid = omega (arith, is) in same)

pub given_behind : (ps : Places) (sid : ℕ) (g : Option Flow) → 1 + length ps ≡ sid → keys_of ps ≡ range_with_len 1 (length ps) → keys_of (ps ++ (sid, g) ∷ []) ≡ range_with_len 1 (length (ps ++ (sid, g) ∷ []))
given_behind ps sid g is given =
    subst (λ n. keys_of (ps ++ (n, g) ∷ []) ≡ range_with_len 1 (length (ps ++ (n, g) ∷ []))) is (keys_from (ps ++ (1 + length ps, g) ∷ []) 1 (from_added ps 1 g (from ps 1 given)))

-- what a success says
pub on_ok : {A B : Type 0} (r : Result A B) (P : Type 0) → is_ok r ≡ true → OnOk r P → P
on_ok (Ok x) P e h = h
on_ok (Err x) P e h = absurd cc
