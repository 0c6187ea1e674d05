-- What a call hands out is its write.
use Rattle.std.proofs.Common.{◌≡◌, ◌⊎◌, inl, inr, ℕ, zero, suc, ◌+◌, ◌-◌, ◌<◌, ◌&&◌, ◌==◌, Bool, true, false, List, []}
use Rattle.std.proofs.Common.{◌∷◌, ◌++◌, length, Option, Some, None, not, nat_eq, refl, sym, ap, subst, ◌∙◌, cond}
use Rattle.std.proofs.Common.{arith, slice_get, nat_lt, nat_le}
use Rattle.std.specs.Option.{MatchOption}
use Rattle.std.specs.List.{list_any}
use Rattle.ballots.specs.declared.letters.Letter.{Letter}
use Rattle.ballots.specs.declared.letters.Note.{Note}
use Rattle.ballots.specs.declared.letters.Note.TheVariants.{Prepare, Promise, Accept, Voted, Higher, Known}
use Rattle.ballots.specs.declared.letters.Cast.{Cast}
use Rattle.ballots.specs.Ballots.{ballot_node}
use Rattle.ballots.specs.Limits.{IsPlace, IsValue, longest_value, most_places}
use Rattle.ballots.specs.Rows.{at, put, rows_from}
use Rattle.ballots.proofs.Callers.{at_put_same}
use Rattle.acceptor.specs.Content.{promised}
use Rattle.acceptor.specs.Content.Write.{Promises, Votes, Learns}
use Rattle.learner.specs.Tally.{is_majority, teaches, counts}
use Rattle.node.specs.Step.{Outcome, is_heeded, is_place, is_sound, is_value, heed, receive, prepare, first_known}
use Rattle.node.specs.Step.{accept, vote_at, promise, after_promise, voted, known, learns, nothing, sends, writes}
use Rattle.node.specs.Step.{lead_with}
use Rattle.node.specs.View.{View, gapless}
use Rattle.proposer.specs.Joining.{join, place_after, proposal}
use Rattle.proposer.specs.Letters.{letter, to_all, proposals}
use Rattle.proposer.specs.declared.role.Role.{Role}
use Rattle.proposer.specs.declared.role.Role.TheVariants.{Idle, Preparing, Leading}
use Rattle.std.proofs.lemmas.Bool.{and_parts, ltb-true, leb-true, eqb-true, cases_lt}
use Rattle.told_writes.specs.States.{NodeState}
use Rattle.node_writes.specs.declared.write_bytes.WriteBytes.{WriteBytes}
use Rattle.told_writes.specs.Telling.{IsOfLog, IsOpen, Teaches, TellsWrite, WritesAfter}
use Rattle.node_writes.specs.Writes.{SpellsOf}
use Rattle.told_writes.specs.Writes.{HandsOut}

-- the last of letters
abbrev pub last : List Letter → Option Letter
last letters = slice_get letters (length letters - 1)

at_end : {X : Type 0} (xs : List X) (x : X) → slice_get (xs ++ x ∷ []) (length xs) ≡ Some x
at_end [] x = refl
at_end (y ∷ xs) x = at_end xs x

one_more : {X : Type 0} (xs : List X) (x : X) → length (xs ++ x ∷ []) ≡ suc (length xs)
one_more [] x = refl
one_more (y ∷ xs) x = ap suc (one_more xs x)

-- it is the one that was added last
pub last_is : (letters : List Letter) (l : Letter) → last (letters ++ l ∷ []) ≡ Some l
last_is letters l =
    let before : length (letters ++ l ∷ []) - 1 ≡ length letters = omega (arith, one_more letters l) in
    ap (λ (n : ℕ). slice_get (letters ++ l ∷ []) n) before ∙ at_end letters l

-- the last of letters to all of one or more members
pub last_to_all : (members me : ℕ) (note : Note) → 0 < members → (n : ℕ) × (last (to_all members me note) ≡ Some (letter me n note))
last_to_all zero me note some = absurd (omega (arith, some))
last_to_all (suc n) me note some = (n, last_is (to_all n me note) (letter me n note))

-- letters that ask for votes, of which none tells of a write
abbrev pub Ask : List Letter → Type 0
Ask [] = Unit {0}
Ask (l ∷ ls) = ((b p : ℕ) × (v : List ℕ) × (l.note ≡ Accept b p v)) × Ask ls

ask_both : (xs ys : List Letter) → Ask xs → Ask ys → Ask (xs ++ ys)
ask_both [] ys first second = second
ask_both (x ∷ xs) ys first second = (first.0, ask_both xs ys first.1 second)

ask_all : (members me b p : ℕ) (v : List ℕ) → Ask (to_all members me (Accept b p v))
ask_all zero me b p v = tt
ask_all (suc n) me b p v = ask_both (to_all n me (Accept b p v)) (letter me n (Accept b p v) ∷ []) (ask_all n me b p v) ((b, p, v, refl), tt)

ask_proposals : (members me b : ℕ) (joined : List (ℕ × Cast)) (p n : ℕ) → Ask (proposals members me b joined p n)
ask_proposals members me b joined p zero = tt
ask_proposals members me b joined p (suc n) = ask_both (to_all members me (Accept b p (proposal (at joined p)))) (proposals members me b joined (p + 1) n) (ask_all members me b p (proposal (at joined p))) (ask_proposals members me b joined (p + 1) n)

abbrev pub TellsNothing : ℕ → List Letter → ℕ → WriteBytes → Type 0
TellsNothing id letters i r = MatchOption (slice_get letters i) (SpellsOf id r None) (λ l. TellsWrite id l.note r)

-- so their call made none
pub asked_only : (id : ℕ) (letters : List Letter) (i : ℕ) (r : WriteBytes) → Ask letters → TellsNothing id letters i r → SpellsOf id r None
asked_only id [] i r ask told = told
asked_only id (l ∷ ls) zero r ask told = subst (λ note. TellsWrite id note r) ask.0.3 told
asked_only id (l ∷ ls) (suc i) r ask told = asked_only id ls i r ask.1 told

place_is : (p : ℕ) → is_place p ≡ true → IsPlace p
place_is p is = let parts = and_parts (nat_lt 0 p) (nat_le p most_places) is in (omega (arith, ltb-true 0 p parts.0), leb-true p most_places parts.1)

value_is : (v : List ℕ) → is_value v ≡ true → IsValue v
value_is v is = leb-true (length v) longest_value is

-- whether a vote is of the log
of_log : (p : ℕ) (v : List ℕ) → IsOfLog p v ⊎ ¬ IsOfLog p v
of_log p v = elim (cases_lt 0 p) [
  | inl some ↦ elim (cases_lt most_places p) [
    | inl above ↦ inr (λ is. omega (arith, above, is.0.1))
    | inr within ↦ elim (cases_lt longest_value (length v)) [
      | inl long ↦ inr (λ is. omega (arith, long, is.1))
      | inr short ↦ inl ((omega (arith, some), within), short)
    ]
  ]
  | inr none ↦ inr (λ is. omega (arith, none, is.0.0))
]

module _ (n : NodeState) (r : WriteBytes) where
  -- what a call hands out, where it goes so
  abbrev pub Hands : Outcome → Option ℕ → Type 0
  Hands o place = WritesAfter n.id o.view.tally.learned o.letters place r → HandsOut n.id n.view.content o.write r

  -- nothing was learned or sent
  quiet : (view : View) (note : Note) (place : Option ℕ) → IsOpen n.view.tally.learned note place → view.tally.learned ≡ n.view.tally.learned → Hands (nothing view) place
  quiet view note None opened same told = inl told
  quiet view note (Some p) opened same told =
      inl (subst (λ (there : Option (List ℕ)). MatchOption there (SpellsOf n.id r None) (λ v. IsValue v → SpellsOf n.id r (Some (Learns p v)))) (ap (λ (rows : List (ℕ × List ℕ)). at rows p) same ∙ opened.2) told)

  -- the last of some letters
  last_told : (letters : List Letter) (l : Letter) → last letters ≡ Some l → MatchOption (last letters) (SpellsOf n.id r None) (λ m. TellsWrite n.id m.note r) → TellsWrite n.id l.note r
  last_told letters l is told = subst (λ (m : Option Letter). MatchOption m (SpellsOf n.id r None) (λ x. TellsWrite n.id x.note r)) is told

  -- a value is learned at its place
  learns_now : (note : Note) (p : ℕ) (v : List ℕ) (place : Option ℕ) → IsOpen n.view.tally.learned note place → ((q : ℕ) → Teaches note q → p ≡ q) → Teaches note p → IsPlace p → IsValue v
      → at n.view.tally.learned p ≡ None → Hands (learns n.view p v) place
  learns_now note p v None opened only mine fits value none told = absurd (opened p mine fits none)
  learns_now note p v (Some q) opened only mine fits value none told =
      let same = only q opened.0 in
      inl (subst (λ (there : Option (List ℕ)). MatchOption there (SpellsOf n.id r None) (λ w. IsValue w → SpellsOf n.id r (Some (Learns p w)))) (at_put_same n.view.tally.learned p v)
      (subst (λ (k : ℕ). MatchOption (at (put n.view.tally.learned p v) k) (SpellsOf n.id r None) (λ w. IsValue w → SpellsOf n.id r (Some (Learns k w)))) (sym same) told) value)

  -- a letter that teaches no value leaves no place opened
  none_open : (note : Note) (place : Option ℕ) → IsOpen n.view.tally.learned note place → ((p : ℕ) → ¬ Teaches note p) → place ≡ None
  none_open note None opened teaches = refl
  none_open note (Some p) opened teaches = absurd (teaches p opened.0)

  -- a call that sends these letters, the last of which is known
  by_last : (o : Outcome) (l : Letter) → last o.letters ≡ Some l → (TellsWrite n.id l.note r → HandsOut n.id n.view.content o.write r) → Hands o None
  by_last o l is told given = told (last_told o.letters l is given)

  prepares : (b q from : ℕ) → Hands (prepare n.id n.view b q from) None
  prepares b q from = by_promised (nat_lt (promised n.view.content) b)
    where
      told : List Letter
      told = first_known n.id n.view.tally.learned from q

      by_promised : (above : Bool) → Hands (cond above (writes n.view (Promises b) (told ++ letter n.id from (Promise b q (rows_from n.view.content.votes q)) ∷ [])) (sends n.view (told ++ letter n.id from (Higher (promised n.view.content)) ∷ []))) None
      by_promised true = by_last (writes n.view (Promises b) (told ++ letter n.id from (Promise b q (rows_from n.view.content.votes q)) ∷ [])) (letter n.id from (Promise b q (rows_from n.view.content.votes q))) (last_is told (letter n.id from (Promise b q (rows_from n.view.content.votes q)))) (λ given. inl given)
      by_promised false = by_last (sends n.view (told ++ letter n.id from (Higher (promised n.view.content)) ∷ [])) (letter n.id from (Higher (promised n.view.content))) (last_is told (letter n.id from (Higher (promised n.view.content)))) (λ given. inl given)

  promises : (role : Role) (b q from : ℕ) (votes : List (ℕ × Cast)) → Hands (promise n.members n.id n.view role b q votes from) None
  promises Idle b q from votes = λ given. inl given
  promises (Leading c next) b q from votes = λ given. inl given
  promises (Preparing c place counted joined) b q from votes = by_counted (b == c && q == place && not (list_any (nat_eq from) counted))
    where
      now : List (ℕ × Cast)
      now = join joined votes

      by_majority : (most : Bool) → Hands (cond most (sends (record n.view { role = Leading b (place_after q now) }) (proposals n.members n.id b now q (place_after q now - q))) (nothing (record n.view { role = Preparing b q (from ∷ counted) now }))) None
      by_majority true given = inl (asked_only n.id (proposals n.members n.id b now q (place_after q now - q)) (length (proposals n.members n.id b now q (place_after q now - q)) - 1) r (ask_proposals n.members n.id b now q (place_after q now - q)) given)
      by_majority false given = inl given

      by_counted : (first : Bool) → Hands (cond first (after_promise n.members n.id n.view b q (from ∷ counted) now) (nothing n.view)) None
      by_counted true = by_majority (is_majority n.members (λ k. list_any (nat_eq k) (from ∷ counted)))
      by_counted false = λ given. inl given

  module _ (some : 0 < n.members) where
    accepts : (b p from : ℕ) (v : List ℕ) → IsPlace p → IsValue v → Hands (accept n.members n.id n.view b p v from) None
    accepts b p from v fits value = by_below (nat_lt b (promised n.view.content))
      where
        votes_now : Hands (writes n.view (Votes p record { ballot = b; value = v }) (to_all n.members n.id (Voted b p v))) None
        votes_now = let at_last = last_to_all n.members n.id (Voted b p v) some in
            by_last (writes n.view (Votes p record { ballot = b; value = v }) (to_all n.members n.id (Voted b p v))) (letter n.id at_last.0 (Voted b p v)) at_last.1 (λ given. inl (given.0 (fits, value)))

        again : (cast : Cast) → at n.view.content.votes p ≡ Some cast → cast.ballot ≡ b → Hands (sends n.view (to_all n.members n.id (Voted b p cast.value))) None
        again cast there same = let at_last = last_to_all n.members n.id (Voted b p cast.value) some in
            by_last (sends n.view (to_all n.members n.id (Voted b p cast.value))) (letter n.id at_last.0 (Voted b p cast.value)) at_last.1
            (λ given. elim (of_log p cast.value) [
              | inl is ↦ inr (refl, (p, cast, there, subst (λ (k : ℕ). SpellsOf n.id r (Some (Votes p record { ballot = k; value = cast.value }))) (sym same) (given.0 is)))
              | inr stranger ↦ inl (given.1 stranger)
            ])

        by_ballot : (cast : Cast) → at n.view.content.votes p ≡ Some cast → (same : Bool) → same ≡ (cast.ballot == b)
            → Hands (cond same (sends n.view (to_all n.members n.id (Voted b p cast.value))) (writes n.view (Votes p record { ballot = b; value = v }) (to_all n.members n.id (Voted b p v)))) None
        by_ballot cast there true is = again cast there (eqb-true cast.ballot b (sym is))
        by_ballot cast there false is = votes_now

        by_vote : (there : Option Cast) → there ≡ at n.view.content.votes p → Hands (vote_at n.members n.id n.view there b p v) None
        by_vote None is = votes_now
        by_vote (Some cast) is = by_ballot cast (sym is) (cast.ballot == b) refl

        by_below : (below : Bool) → Hands (cond below (sends n.view (letter n.id from (Higher (promised n.view.content)) ∷ [])) (vote_at n.members n.id n.view (at n.view.content.votes p) b p v)) None
        by_below true = λ given. inl given
        by_below false = by_vote (at n.view.content.votes p) refl

    voteds : (b p from : ℕ) (v : List ℕ) (place : Option ℕ) → IsOpen n.view.tally.learned (Voted b p v) place → IsPlace p → IsValue v
        → (there : Option (List ℕ)) → there ≡ at n.view.tally.learned p → Hands (voted n.members n.view there b p v from) place
    voteds b p from v place opened fits value (Some w) is = quiet n.view (Voted b p v) place opened refl
    voteds b p from v place opened fits value None is = by_majority (teaches n.members n.view.tally None b p v from)
      where
        by_majority : (most : Bool) → Hands (cond most (learns n.view p v) (nothing (record n.view { tally = counts n.view.tally None b p v from }))) place
        by_majority true = learns_now (Voted b p v) p v place opened (λ q same. same) refl fits value (sym is)
        by_majority false = quiet (record n.view { tally = counts n.view.tally None b p v from }) (Voted b p v) place opened refl

    knowns : (p : ℕ) (v : List ℕ) (place : Option ℕ) → IsOpen n.view.tally.learned (Known p v) place → IsPlace p → IsValue v
        → (there : Option (List ℕ)) → there ≡ at n.view.tally.learned p → Hands (known n.view there p v) place
    knowns p v place opened fits value (Some w) is = quiet n.view (Known p v) place opened refl
    knowns p v place opened fits value None is = learns_now (Known p v) p v place opened (λ q same. same) refl fits value (sym is)

    heeds : (l : Letter) (note : Note) (place : Option ℕ) → IsOpen n.view.tally.learned note place → is_sound l note ≡ true → Hands (heed n.members n.id n.view l.from note) place
    heeds l (Prepare b q) None opened sound = prepares b q l.from
    heeds l (Prepare b q) (Some p) opened sound = absurd opened.0
    heeds l (Promise b q votes) None opened sound = promises n.view.role b q l.from votes
    heeds l (Promise b q votes) (Some p) opened sound = absurd opened.0
    heeds l (Accept b p v) None opened sound =
        let parts = and_parts (is_place p) (is_value v) (and_parts (is_place p && is_value v) (ballot_node b == l.from) sound).0 in
        accepts b p l.from v (place_is p parts.0) (value_is v parts.1)
    heeds l (Accept b q v) (Some p) opened sound = absurd opened.0
    heeds l (Voted b p v) place opened sound = let parts = and_parts (is_place p) (is_value v) sound in voteds b p l.from v place opened (place_is p parts.0) (value_is v parts.1) (at n.view.tally.learned p) refl
    heeds l (Higher b) None opened sound = λ given. inl given
    heeds l (Higher b) (Some p) opened sound = absurd opened.0
    heeds l (Known p v) place opened sound = let parts = and_parts (is_place p) (is_value v) sound in knowns p v place opened (place_is p parts.0) (value_is v parts.1) (at n.view.tally.learned p) refl

    -- a letter comes
    pub received : (l : Letter) (place : Option ℕ) → IsOpen n.view.tally.learned l.note place → Hands (receive n.members n.id n.view l) place
    received l place opened = by_heeded (is_heeded n.members n.id l) refl
      where
        by_heeded : (heeded : Bool) → heeded ≡ is_heeded n.members n.id l → Hands (cond heeded (heed n.members n.id n.view l.from l.note) (nothing n.view)) place
        by_heeded true is = heeds l l.note place opened (and_parts (nat_lt l.from n.members && nat_lt l.to n.members && l.to == n.id) (is_sound l l.note) (sym is)).1
        by_heeded false is = quiet n.view l.note place opened refl

    -- it is asked to lead
    pub leads : (b : ℕ) → Hands (lead_with n.members n.id n.view b) None
    leads b = let q = length (gapless n.view) + 1 in let at_last = last_to_all n.members n.id (Prepare b q) some in
        by_last (lead_with n.members n.id n.view b) (letter n.id at_last.0 (Prepare b q)) at_last.1 (λ given. inl given)
