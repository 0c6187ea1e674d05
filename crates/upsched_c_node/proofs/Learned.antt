-- What a call leaves of what was learned, and how far it goes without a gap.
use Rattle.std.proofs.Common.{◌≡◌, ◌≢◌, ◌∙◌, ◌⊎◌, inl, inr, ℕ, zero, suc, ◌+◌, ◌-◌, ◌<◌, ◌≤◌, ◌&&◌, ◌==◌, Bool, true}
use Rattle.std.proofs.Common.{false, cond}
use Rattle.std.proofs.Common.{List, [], ◌∷◌, ◌++◌, length, Option, Some, None, Result, Ok, Err, not, nat_eq, nat_lt}
use Rattle.std.proofs.Common.{nat_le}
use Rattle.std.proofs.Common.{Vec, drop, filter, slice_get, refl, sym, ap, subst, arith, length-append}
use Rattle.std.specs.declared.alloc.Global.{Global}
use Rattle.std.specs.List.{list_any}
use Rattle.std.proofs.lemmas.Bool.{and_parts, cases_eq, leb-true, ltb-true, ne_eqb}
use Rattle.std.proofs.lemmas.Option.{slice_get_past}
use Rattle.ballots.specs.Limits.{longest_value, most_places}
use Rattle.ballots.specs.Rows.{at, put, rows_from}
use Rattle.ballots.specs.declared.letters.Cast.{Cast}
use Rattle.ballots.specs.declared.letters.Letter.{Letter}
use Rattle.ballots.specs.declared.letters.Note.{Note}
use Rattle.ballots.specs.declared.letters.Note.TheVariants.{Prepare, Promise, Accept, Voted, Higher, Known}
use Rattle.ballots.specs.Members.{member_count}
use Rattle.acceptor.specs.Content.{AreRowsFrom, Content, promised}
use Rattle.acceptor.specs.Kept.{no_failures, no_break}
use Rattle.acceptor.specs.Content.Write.{Promises, Votes}
use Rattle.command_log.specs.Values.{Rows, outputs_of_values, values_from}
use Rattle.command_log.specs.View.{AreRows}
use Rattle.command_log.proofs.Callers.{are_rows_put, values_grow, values_here, value_is_at, values_length}
use Rattle.grant_machine.specs.declared.output.Output.{Output}
use Rattle.learner.specs.Tally.{counts, is_majority, teaches}
use Rattle.map_release.specs.Released.{has_ended, numbered}
use Rattle.map_release.specs.declared.numbered.Numbered.{Numbered}
use Rattle.node.specs.Calls.{Cause, Kept as KeepsWho, answer}
use Rattle.node.specs.Sched.{who_of}
use Rattle.node.specs.declared.parts.Parts.{Parts}
use Rattle.node.specs.Calls.Cause.{Receive, Lead, Offer, Tell}
use Rattle.node.specs.Step.{Outcome, accept, after_promise, first_known, heed, is_heeded, is_place, is_sound, is_value}
use Rattle.node.specs.Step.{known, learns, nothing, offer, prepare, promise, receive, sends, tell, vote_at, voted}
use Rattle.node.specs.Step.{writes}
use Rattle.node.specs.View.{View, gapless}
use Rattle.proposer.specs.Joining.{join, place_after}
use Rattle.proposer.specs.Letters.{letter, proposals, to_all}
use Rattle.proposer.specs.declared.fault.NodeFault.{NodeFault as Fault}
use Rattle.proposer.specs.declared.role.Role.{Role}
use Rattle.proposer.specs.declared.role.Role.TheVariants.{Idle, Preparing, Leading}
use Rattle.upsched_c_node.proofs.Exact.{stays_up}
use Rattle.upsched_c_node.specs.States.{Answered, HasReleased, NodeState, Released, Takes, started_as, state_of}

-- rows of records are rows of a log
pub rows_of : (p : ℕ) (rows : Rows) → AreRowsFrom p rows → AreRows p rows
rows_of p [] are = tt
rows_of p (row ∷ rows) are = (are.0, are.1, rows_of (row.0 + 1) rows are.2)

values_gap : (p : ℕ) (row : ℕ × List ℕ) (rows : Rows) → row.0 ≢ p → values_from p (row ∷ rows) ≡ []
values_gap p row rows other = ap (λ b. cond b (row.1 ∷ values_from (p + 1) rows) []) (ne_eqb row.0 p other)

-- there are no more of them than places
at_most : (p : ℕ) (rows : Rows) → AreRows p rows → p ≤ most_places + 1 → length (values_from p rows) + p ≤ most_places + 1
at_most p [] are le = omega arith
at_most p (row ∷ rows) are le = elim (cases_eq row.0 p) [
  | inl is ↦
      let rest : length (values_from (row.0 + 1) rows) + (row.0 + 1) ≤ most_places + 1 = at_most (row.0 + 1) rows are.2 (omega (arith, are.1)) in
      omega (arith, ap length (values_here p row rows is ∙ ap (λ n. row.1 ∷ values_from (n + 1) rows) (sym is)), rest)
  | inr other ↦ omega (arith, ap length (values_gap p row rows other), le)
]

pub within_log : (rows : Rows) → AreRows 1 rows → length (values_from 1 rows) ≤ most_places
within_log rows are = let all : length (values_from 1 rows) + 1 ≤ most_places + 1 = at_most 1 rows are (omega arith) in omega (arith, all)

-- where nothing stands at the next place, so many are learned without a gap, and else one more is
pub gap_next : (rows : Rows) (n : ℕ) → AreRows 1 rows → n ≤ length (values_from 1 rows) → at rows (n + 1) ≡ None → n ≡ length (values_from 1 rows)
gap_next rows n are few none = elim (cases_eq n (length (values_from 1 rows))) [
  | inl is ↦ is
  | inr other ↦
      let place : 1 + n ≡ n + 1 = omega arith in
      let past : slice_get (values_from 1 rows) n ≡ None = sym (value_is_at 1 n rows are few) ∙ (ap (at rows) place ∙ none) in
      let all : length (values_from 1 rows) ≤ n = nothing_there (values_from 1 rows) n past in
      omega (arith, few, all)
]
  where
    nothing_there : {A : Type 0} (xs : List A) (k : ℕ) → slice_get xs k ≡ None → length xs ≤ k
    nothing_there [] k none = omega arith
    nothing_there (x ∷ xs) zero none = absurd (cc (none))
    nothing_there (x ∷ xs) (suc k) none = let rest : length xs ≤ k = nothing_there xs k none in omega (arith, rest)

pub one_more : (rows : Rows) (n : ℕ) → AreRows 1 rows → n ≤ length (values_from 1 rows) → at rows (n + 1) ≢ None → n + 1 ≤ length (values_from 1 rows)
one_more rows n are few some = elim (cases_eq n (length (values_from 1 rows))) [
  | inl is ↦
      let place : n + 1 ≡ 1 + n = omega arith in
      absurd (some (ap (at rows) place ∙ (value_is_at 1 n rows are few ∙ slice_get_past (values_from 1 rows) n (omega (arith, is)))))
  | inr other ↦ omega (arith, few, other)
]

-- a view goes on so: its cursor stays, and what is learned stays, or a value is put at a place that has none
abbrev Goes : View → View → Type 0
Goes old new =
    (new.cursor ≡ old.cursor)
    × ((new.tally.learned ≡ old.tally.learned)
    ⊎ ((p : ℕ) × (v : List ℕ) × (1 ≤ p) × (p ≤ most_places) × (at old.tally.learned p ≡ None) × (new.tally.learned ≡ put old.tally.learned p v)))

module _ (members me : ℕ) (view : View) where
  abbrev Keeps : Outcome → Type 0
  Keeps o = Goes view o.view

  either : (b : Bool) (x y : Outcome) → Keeps x → Keeps y → Keeps (cond b x y)
  either true x y first second = first
  either false x y first second = second

  prepares : (b q from : ℕ) → Keeps (prepare me view b q from)
  prepares b q from =
      let told = first_known me view.tally.learned from q in
      either (nat_lt (promised view.content) b)
      (writes view (Promises b) (told ++ letter me from (Promise b q (rows_from view.content.votes q)) ∷ []))
      (sends view (told ++ letter me from (Higher (promised view.content)) ∷ [])) (refl, inl refl) (refl, inl refl)

  promises : (role : Role) (b q : ℕ) (votes : List (ℕ × Cast)) (from : ℕ) → Keeps (promise members me view role b q votes from)
  promises Idle b q votes from = (refl, inl refl)
  promises (Leading c next) b q votes from = (refl, inl refl)
  promises (Preparing c place counted joined) b q votes from =
      let now = join joined votes in
      either (b == c && q == place && not (list_any (nat_eq from) counted)) (after_promise members me view b q (from ∷ counted) now) (nothing view)
      (either (is_majority members (λ n. list_any (nat_eq n) (from ∷ counted)))
      (sends (record view { role = Leading b (place_after q now) }) (proposals members me b now q (place_after q now - q)))
      (nothing (record view { role = Preparing b q (from ∷ counted) now })) (refl, inl refl) (refl, inl refl))
      (refl, inl refl)

  votes_at : (there : Option Cast) (b p : ℕ) (v : List ℕ) → Keeps (vote_at members me view there b p v)
  votes_at None b p v = (refl, inl refl)
  votes_at (Some cast) b p v =
      either (cast.ballot == b) (sends view (to_all members me (Voted b p cast.value)))
      (writes view (Votes p record { ballot = b; value = v }) (to_all members me (Voted b p v))) (refl, inl refl) (refl, inl refl)

  accepts : (b p : ℕ) (v : List ℕ) (from : ℕ) → Keeps (accept members me view b p v from)
  accepts b p v from =
      either (nat_lt b (promised view.content)) (sends view (letter me from (Higher (promised view.content)) ∷ []))
      (vote_at members me view (at view.content.votes p) b p v) (refl, inl refl) (votes_at (at view.content.votes p) b p v)

  learned_now : (p : ℕ) (v : List ℕ) → is_place p ≡ true → None ≡ at view.tally.learned p → Keeps (learns view p v)
  learned_now p v place none =
      let parts = and_parts (nat_lt 0 p) (nat_le p most_places) place in
      (refl, inr (p, v, omega (arith, ltb-true 0 p parts.0), leb-true p most_places parts.1, sym none, refl))

  hears : (there : Option (List ℕ)) (b p : ℕ) (v : List ℕ) (from : ℕ) → is_place p ≡ true → there ≡ at view.tally.learned p → Keeps (voted members view there b p v from)
  hears (Some w) b p v from place there = (refl, inl refl)
  hears None b p v from place there =
      either (teaches members view.tally None b p v from) (learns view p v) (nothing (record view { tally = counts view.tally None b p v from }))
      (learned_now p v place there) (refl, inl refl)

  knows : (there : Option (List ℕ)) (p : ℕ) (v : List ℕ) → is_place p ≡ true → there ≡ at view.tally.learned p → Keeps (known view there p v)
  knows (Some w) p v place there = (refl, inl refl)
  knows None p v place there = learned_now p v place there

  heeds : (l : Letter) (note : Note) → is_sound l note ≡ true → Keeps (heed members me view l.from note)
  heeds l (Prepare b q) sound = prepares b q l.from
  heeds l (Promise b q votes) sound = promises view.role b q votes l.from
  heeds l (Accept b p v) sound = accepts b p v l.from
  heeds l (Voted b p v) sound = hears (at view.tally.learned p) b p v l.from (and_parts (is_place p) (is_value v) sound).0 refl
  heeds l (Higher b) sound = (refl, inl refl)
  heeds l (Known p v) sound = knows (at view.tally.learned p) p v (and_parts (is_place p) (is_value v) sound).0 refl

  receives : (l : Letter) → Keeps (receive members me view l)
  receives l = by_heeded (is_heeded members me l) refl
    where
      by_heeded : (heeded : Bool) → heeded ≡ is_heeded members me l → Keeps (cond heeded (heed members me view l.from l.note) (nothing view))
      by_heeded true is = heeds l l.note (and_parts (nat_lt l.from members && nat_lt l.to members && l.to == me) (is_sound l l.note) (sym is)).1
      by_heeded false is = (refl, inl refl)

  abbrev KeepsIfOk : Result Outcome Fault → Type 0
  KeepsIfOk r = (o : Outcome) → Ok o ≡ r → Keeps o

  offers : (role : Role) (v : List ℕ) → KeepsIfOk (offer members me view role v)
  offers Idle v o is = absurd (cc (is))
  offers (Preparing b q counted joined) v o is = absurd (cc (is))
  offers (Leading b next) v o is = by_length (nat_lt longest_value (length v)) o is
    where
      by_place : (full : Bool) → KeepsIfOk (cond full (Err Fault.LogFull) (Ok (sends (record view { role = Leading b (next + 1) }) (to_all members me (Accept b next v)))))
      by_place true o is = absurd (cc (is))
      by_place false o is = let same : o ≡ sends (record view { role = Leading b (next + 1) }) (to_all members me (Accept b next v)) = cc (is) in subst Keeps (sym same) (refl, inl refl)

      by_length : (long : Bool)
          → KeepsIfOk (cond long (Err Fault.ValueTooLong) (cond (nat_lt most_places next) (Err Fault.LogFull) (Ok (sends (record view { role = Leading b (next + 1) }) (to_all members me (Accept b next v))))))
      by_length true o is = absurd (cc (is))
      by_length false o is = by_place (nat_lt most_places next) o is

goes_on : (n : NodeState) (cause : Cause) (o : Outcome) → Takes n cause (Ok o) → Goes n.view o.view
goes_on n (Receive l) o takes = let same : o ≡ receive n.members n.id n.view l = cc (takes) in subst (Keeps n.members n.id n.view) (sym same) (receives n.members n.id n.view l)
goes_on n Lead o takes = subst (Keeps n.members n.id n.view) (sym takes.1.2) (refl, inl refl)
goes_on n (Offer v) o takes = offers n.members n.id n.view n.view.role v o takes
goes_on n (Tell to q) o takes = let same : o ≡ tell n.members n.id n.view to q = cc (takes) in subst (Keeps n.members n.id n.view) (sym same) (refl, inl refl)

-- what was released stays so
has_released : (count : ℕ) (old new : View) → Goes old new → HasReleased count old → HasReleased count new
has_released count old new (cursor, inl same) has = record {
  rows = subst (λ (rows : Rows). AreRows 1 rows) (sym same) has.rows;
  cursor = cursor ∙ has.cursor;
  few = subst (λ (rows : Rows). count ≤ length (values_from 1 rows)) (sym same) has.few;
}
has_released count old new (cursor, inr (p, v, lo, hi, none, is)) has =
    let grown = values_grow 1 p v old.tally.learned has.rows lo none in
    let longer : length (values_from 1 (put old.tally.learned p v)) ≡ length (values_from 1 old.tally.learned) + length grown.0 = ap length grown.1 ∙ length-append (values_from 1 old.tally.learned) grown.0 in
    record {
      rows = subst (λ (rows : Rows). AreRows 1 rows) (sym is) (are_rows_put 1 p v old.tally.learned has.rows lo hi);
      cursor = cursor ∙ has.cursor;
      few = subst (λ (rows : Rows). count ≤ length (values_from 1 rows)) (sym is) (omega (arith, longer, has.few));
    }

pub released_after : (count : ℕ) (n : NodeState) (cause : Cause) (answered : Result (List Letter) Fault) (after : NodeState) → Answered n cause answered after → HasReleased count n.view → HasReleased count after.view
released_after count n cause (Ok letters) after a has =
    subst (λ (m : NodeState). HasReleased count m.view) (sym a.3) (has_released count n.view a.0.view (goes_on n cause a.0 a.1) has)
released_after count n cause (Err Fault.OutOfMemory) after a has = subst (λ (m : NodeState). HasReleased count m.view) (sym a.1) has
released_after count n cause (Err Fault.Down) after a has = subst (λ (m : NodeState). HasReleased count m.view) (sym a.1) has
released_after count n cause (Err Fault.StoreRefused) after a has = subst (λ (m : NodeState). HasReleased count m.view) (sym a.1) has
released_after count n cause (Err Fault.NotLeading) after a has = subst (λ (m : NodeState). HasReleased count m.view) (sym a.1) has
released_after count n cause (Err Fault.LogFull) after a has = subst (λ (m : NodeState). HasReleased count m.view) (sym a.1) has
released_after count n cause (Err Fault.RoundsSpent) after a has = subst (λ (m : NodeState). HasReleased count m.view) (sym a.1) has
released_after count n cause (Err Fault.ValueTooLong) after a has = subst (λ (m : NodeState). HasReleased count m.view) (sym a.1) has

-- a node that is called stays whole
pub stays_whole : (count : ℕ) (old new : Parts Content) (cause : Cause) (r : Result (Vec Letter Global) Fault) → old.is_down ≡ false → (state_of old).id < (state_of old).members → HasReleased count (state_of old).view
    → KeepsWho (who_of no_failures no_break old) r (who_of no_failures no_break new) → Answered (state_of old) cause (answer r) (state_of new)
    → (new.is_down ≡ false) × ((state_of new).id < (state_of new).members) × HasReleased count (state_of new).view
stays_whole count old new cause r up member has kept a = (
  stays_up old new up r kept,
  subst (λ (k : ℕ). k < member_count new.proposer.members) (sym kept.0) (subst (λ (m : ℕ). old.proposer.id < m) (sym kept.1) member),
  released_after count (state_of old) cause (answer r) (state_of new) a has,
)

-- a node that starts over records in order has released nothing
pub starts_whole : (new : Parts Content) (id members : ℕ) (c : Content) → new.is_down ≡ false → state_of new ≡ started_as id members c → id < members → AreRows 1 c.learned
    → (new.is_down ≡ false) × ((state_of new).id < (state_of new).members) × HasReleased 0 (state_of new).view
starts_whole new id members c up is member are = (
  up,
  subst (λ (n : NodeState). n.id < n.members) (sym is) member,
  subst (λ (n : NodeState). HasReleased 0 n.view) (sym is) record { rows = are; cursor = refl; few = omega arith },
)

-- one that released is whole, as far as it went
pub releases_whole : (count all : ℕ) (old new : Parts Content) (now : ℕ) (outputs : List Numbered) → HasReleased count (state_of old).view → all ≡ length (gapless (state_of old).view) → Released (state_of old) now (Ok outputs) (state_of new)
    → HasReleased all (state_of new).view
releases_whole count all old new now outputs has is released =
    subst (λ (n : NodeState). HasReleased all n.view) (sym released.1) record { rows = has.rows; cursor = sym is; few = omega (arith, is) }

module _ (n : NodeState) (now : ℕ) where
  numbered_length : (p : ℕ) (os : List Output) → length (numbered p os) ≡ length os
  numbered_length p [] = refl
  numbered_length p (o ∷ os) = ap suc (numbered_length (p + 1) os)

  drop_past : (k : ℕ) (xs : List Numbered) → length xs ≤ k → drop k xs ≡ []
  drop_past zero [] few = refl
  drop_past zero (x ∷ xs) few = absurd (omega (arith, few))
  drop_past (suc k) [] few = refl
  drop_past (suc k) (x ∷ xs) few = drop_past k xs (omega (arith, few))

  -- where all is released, nothing is, and nothing changes
  pub nothing_left : n.view.cursor ≡ length (gapless n.view) → Released n now (Ok []) n
  nothing_left all =
      let outputs = outputs_of_values (gapless n.view) in
      let few : length (numbered 1 outputs) ≤ n.view.cursor = omega (arith, numbered_length 1 outputs, values_length (gapless n.view), all) in (
        sym (ap (λ (xs : List Numbered). filter (λ x. not (has_ended now x.output)) xs) (drop_past n.view.cursor (numbered 1 outputs) few)),
        λ i. record n { view = record n.view { cursor = all i } },
      )
