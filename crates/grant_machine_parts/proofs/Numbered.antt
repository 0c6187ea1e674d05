-- Where a request's grant is looked for first among placements.
use Rattle.std.proofs.Common.{◌≡◌, ◌≢◌, ℕ, ◌+◌, ◌%◌, ◌<◌, Bool, true, false, ◌||◌, List, [], ◌∷◌, length, set, take}
use Rattle.std.proofs.Common.{get_or, refl, sym, ap, subst, ◌∙◌, arith, eqb}
use Rattle.std.proofs.Math.ListN.{length-set}
use Rattle.std.specs.Prelude.{slice_index}
use Rattle.std.specs.List.{list_any, AllByRecursion}
use Rattle.std.proofs.lemmas.Bool.{eqb-true, and_parts}
use Rattle.std.proofs.lemmas.List.{get_or-set_same, get_or-set_other, take_more}
use Rattle.flow_state.specs.declared.flow.Waiting.{Waiting}
use Rattle.grant_machine_parts.specs.Placing.{Placement}
use Rattle.grant_machine_parts.specs.Cutting.{is_grant_of, is_cause_sent}
use Rattle.grant_machine_parts.specs.Granted.{IsNumbered}
use Rattle.grant_machine_parts.proofs.Carved.{all_push}

-- a number that isn't 0 is written
set_some : (ns : List ℕ) (k j v : ℕ) → k < length ns → v ≢ 0 → slice_index ns j ≢ 0 → slice_index (set ns k v) j ≢ 0
set_some ns k j v lt some was = by (eqb j k) refl
  where
    by : (b : Bool) → eqb j k ≡ b → slice_index (set ns k v) j ≢ 0
    by true e = λ none. some (let same : j ≡ k = eqb-true j k e in sym (get_or-set_same ns k v 0 lt) ∙ sym (ap (slice_index (set ns k v)) same) ∙ none)
    by false e = λ none. was (sym (get_or-set_other ns k j v 0 (λ same. grind (arith, e, same))) ∙ none)

pub numbered_still : (ns : List ℕ) (k v : ℕ) (ps : List Placement) → k < length ns → v ≢ 0 → AllByRecursion (IsNumbered ns) ps → AllByRecursion (IsNumbered (set ns k v)) ps
numbered_still ns k v [] lt some all = tt
numbered_still ns k v (p ∷ ps) lt some all = (λ w is. set_some ns k (w.sid % 256) v lt some (all.0 w is), numbered_still ns k v ps lt some all.1)

-- a placement's request has the placement's SID
grant_sid : (w : Waiting) (p : Placement) → is_grant_of w p ≡ true → p.sid ≡ w.sid
grant_sid w p is = eqb-true p.sid w.sid (and_parts (eqb p.sid w.sid) (is_cause_sent p.cause w.sent) is).0

-- what is written at a placement's SID is its number
pub numbered_there : (ns : List ℕ) (v : ℕ) (p : Placement) → p.sid % 256 < length ns → v ≢ 0 → IsNumbered (set ns (p.sid % 256) v) p
numbered_there ns v p lt some w is none =
    let same : p.sid ≡ w.sid = grant_sid w p is in
    some (sym (get_or-set_same ns (p.sid % 256) v 0 lt) ∙ ap (λ n. slice_index (set ns (p.sid % 256) v) (n % 256)) same ∙ none)

-- a placement that serves no request needs none
pub numbered_none : (ns : List ℕ) (p : Placement) → ((time : ℕ) → is_cause_sent p.cause time ≡ false) → IsNumbered ns p
numbered_none ns p off w is = absurd (let on : is_cause_sent p.cause w.sent ≡ true = (and_parts (eqb p.sid w.sid) (is_cause_sent p.cause w.sent) is).1 in let no = off w.sent in cc)

pub numbered_more : (ns : List ℕ) (ps : List Placement) (i : ℕ) (p : Placement) → i < length ps → p ≡ get_or ps i p → AllByRecursion (IsNumbered ns) (take i ps) → IsNumbered ns p → AllByRecursion (IsNumbered ns) (take (i + 1) ps)
numbered_more ns ps i p lt is all new = subst (AllByRecursion (IsNumbered ns)) (sym (take_more ps i p lt)) (all_push (IsNumbered ns) (take i ps) (get_or ps i p) all (subst (IsNumbered ns) is new))

pub numbered_put : (ns new : List ℕ) (ps : List Placement) (i k v : ℕ) (p : Placement) → new ≡ set ns k v → k ≡ p.sid % 256 → length ns ≡ 256 → v ≢ 0 → i < length ps → p ≡ get_or ps i p
    → AllByRecursion (IsNumbered ns) (take i ps) → (length new ≡ 256) × AllByRecursion (IsNumbered new) (take (i + 1) ps)
numbered_put ns new ps i k v p put at whole some lt is all =
    let below : k < length ns = omega arith in
    let here : p.sid % 256 < length ns = omega arith in
    let now : new ≡ set ns (p.sid % 256) v = put ∙ ap (λ j. set ns j v) at in (
      ap length put ∙ length-set ns k v ∙ whole,
      numbered_more new ps i p lt is (subst (λ xs. AllByRecursion (IsNumbered xs) (take i ps)) (sym put) (numbered_still ns k v (take i ps) below some all)) (subst (λ xs. IsNumbered xs p) (sym now) (numbered_there ns v p here some)),
    )

-- no placement grants a request that has no number
pub none_grants : (ns : List ℕ) (ps : List Placement) (w : Waiting) → AllByRecursion (IsNumbered ns) ps → slice_index ns (w.sid % 256) ≡ 0 → list_any (is_grant_of w) ps ≡ false
none_grants ns [] w all none = refl
none_grants ns (p ∷ ps) w all none = by (is_grant_of w p) refl (none_grants ns ps w all.1 none)
  where
    by : (b : Bool) → is_grant_of w p ≡ b → list_any (is_grant_of w) ps ≡ false → (b || list_any (is_grant_of w) ps) ≡ false
    by true is rest = absurd (all.0 w is none)
    by false is rest = rest
