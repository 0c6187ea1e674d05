-- A node that leads, counts promises and proposes does what keeps the invariant.
use Rattle.std.proofs.Common.{◌≡◌, ◌⊎◌, inl, inr, ⊎_elim, ℕ, ◌+◌, ◌-◌, ◌*◌, ◌<◌, ◌≤◌, true, cond, not, ◌&&◌, nat_lt}
use Rattle.std.proofs.Common.{nat_eq, ◌==◌, List, [], ◌∷◌, ◌++◌, length, refl, sym, ◌∙◌, ap, subst, arith, Option, Some}
use Rattle.std.proofs.Common.{None, Result, Ok, Err, slice_get}
use Rattle.std.specs.List.{list_any}
use Rattle.std.proofs.lemmas.Bool.{cond_both, and_parts, or_cases, ltb-true, eqb-true, or_right}
use Rattle.std.proofs.lemmas.Bool.Decides.{nat_tests}
use Rattle.ballots.specs.Limits.{most_places}
use Rattle.ballots.specs.Ballots.{ballot_node, IsLeastAbove}
use Rattle.ballots.specs.declared.letters.Cast.{Cast}
use Rattle.ballots.specs.declared.letters.Note.{Note}
use Rattle.ballots.specs.declared.letters.Letter.{Letter}
use Rattle.ballots.specs.declared.letters.Note.TheVariants.{Prepare, Accept}
use Rattle.ballots.specs.Voting.{Entry, IsIn, Quorum, NoneBelow, HighestBelow, IsSafe, count_below}
use Rattle.ballots.specs.Voting.Entry.{Promised, Vote}
use Rattle.ballots.specs.Rows.{at}
use Rattle.proposer.specs.declared.role.Role.{Role}
use Rattle.node.specs.View.{View, Standing, gapless}
use Rattle.proposer.specs.declared.role.Role.TheVariants.{Idle, Preparing, Leading}
use Rattle.node.specs.View.Standing.{Running}
use Rattle.proposer.specs.declared.fault.NodeFault.{NodeFault as Fault}
use Rattle.node.specs.Step.{Outcome, nothing, sends, to_all, proposals, after_promise, promise, offer, limit, lead_with}
use Rattle.learner.specs.Tally.{is_majority}
use Rattle.proposer.specs.Joining.{join, place_after, proposal}
use Rattle.network_script.proofs.Invariant.{IsProposed, PromiseOk, IsCounted, CountedOk, LeadsOk, OwnOk, RoleOk, UpOk}
use Rattle.network_script.proofs.Invariant.{LetterOk, Invariant}
use Rattle.network_script.proofs.Kept.{NewLetters, proposed_split}
use Rattle.network_script.proofs.Rows.{at_in}
use Rattle.network_script.proofs.Joins.{HasAbove, join_up, join_in, join_from}
use Rattle.network_script.proofs.Sending.{to_all_says, proposals_say, least_place_after, in_place_after}
use Rattle.network_script.proofs.Acceptors.{nothing_sound, quiet_all, turns_sound}
use Rattle.network_script.proofs.Sound.{Sound, IsOther, quiet_letters, quiet_own}

counted_one : (counted : List ℕ) (n j : ℕ) → IsCounted (n ∷ counted) j → (j ≡ n) ⊎ IsCounted counted j
counted_one counted n j is = ⊎_elim (λ same. inl (eqb-true j n same)) (λ old. inr old) (or_cases (nat_eq j n) (list_any (nat_eq j) counted) is)

old_counted : (counted : List ℕ) (n j : ℕ) → IsCounted counted j → IsCounted (n ∷ counted) j
old_counted counted n j is = or_right (nat_eq j n) (list_any (nat_eq j) counted) is

new_counted : (counted : List ℕ) (n : ℕ) → IsCounted (n ∷ counted) n
new_counted counted n = grind (arith, nat_tests)

-- one more promise is counted and its votes joined
counts_one : (members : ℕ) (h : List Entry) (b q : ℕ) (counted : List ℕ) (joined votes : List (ℕ × Cast)) (n : ℕ) → n < members → CountedOk members h b q counted joined → PromiseOk h n b q votes → CountedOk members h b q (n ∷ counted) (join joined votes)
counts_one members h b q counted joined votes n member ok promise = record {
  member = λ j is. ⊎_elim (λ same. omega (arith, same, member)) (ok.member j) (counted_one counted n j is);
  promised = λ j is. ⊎_elim (λ same. subst (λ (i : ℕ). IsIn h (Promised i b)) (sym same) promise.promised) (ok.promised j) (counted_one counted n j is);
  cast = λ p x is. cast p x (join_from joined votes p x is);
  each = λ j c p v is from below vote. each j c p v from below vote (counted_one counted n j is);
}
  where
    cast : (p : ℕ) (x : Cast) → (at joined p ≡ Some x) ⊎ IsIn votes (p, x) → (j : ℕ) × IsCounted (n ∷ counted) j × IsIn h (Vote j x.ballot p x.value) × (x.ballot < b)
    cast p x (inl old) = let r = ok.cast p x old in (r.0, old_counted counted n r.0 r.1, r.2, r.3)
    cast p x (inr new) = let r = promise.cast p x new in (n, new_counted counted n, r.0, r.1)

    each : (j c p : ℕ) (v : List ℕ) → q ≤ p → c < b → IsIn h (Vote j c p v) → (j ≡ n) ⊎ IsCounted counted j → HasAbove (join joined votes) p c
    each j c p v from below vote (inl same) =
        let r = promise.each c p v from below (subst (λ (i : ℕ). IsIn h (Vote i c p v)) same vote) in
        let top = join_in joined votes p r.0 r.1 in
        (top.0, top.1, omega (arith, r.2, top.2))
    each j c p v from below vote (inr old) = join_up joined votes p c (ok.each j c p v old from below vote)

module _ (members : ℕ) (h : List Entry) (sent : List Letter) (states : List Standing) (k : ℕ) (view : View) (inv : Invariant members h sent states) (here : slice_get states k ≡ Some (Running view)) where
  was : UpOk members h sent k view
  was = inv.nodes k (Running view) here

  -- a majority of promises makes a leader, which proposes at each place where a vote was reported and at those below it
  module _ (b q : ℕ) (counted : List ℕ) (joined : List (ℕ × Cast)) (node : ballot_node b ≡ k) (tried : b ≤ view.content.tried) (ok : CountedOk members h b q counted joined) (own : OwnOk sent k view.content.tried (Preparing b q counted joined)) where
    abbrev next : ℕ
    next = place_after q joined

    abbrev more : List Letter
    more = proposals members k b joined q (next - q)

    prepares_on : Sound members h sent k view (nothing (record view { role = Preparing b q counted joined }))
    prepares_on = turns_sound members h sent states k view inv here view.hint (Preparing b q counted joined) [] (quiet_letters members h sent [] k (λ l none. absurd none)) (node, tried, ok) (quiet_own members h sent [] k view.content.tried (Preparing b q counted joined) (λ l none. absurd none) own)

    leads : is_majority members (λ n. list_any (nat_eq n) counted) ≡ true → Sound members h sent k view (sends (record view { role = Leading b next }) more)
    leads most = turns_sound members h sent states k view inv here view.hint (Leading b next) more letters (node, tried, leader) own_after
      where
        quorum : Quorum members
        quorum = record { set = λ n. list_any (nat_eq n) counted; majority = ltb-true members (2 * count_below (λ n. list_any (nat_eq n) counted) members) most }

        from_q : q ≤ next
        from_q = least_place_after q joined

        leader : LeadsOk members h b next
        leader = record {
          quorum = quorum;
          promised = λ n is_of. ok.promised n is_of.1;
          free = λ p from n c w is_of below vote.
              let top = ok.each n c p w is_of.1 (omega (arith, from_q)) below vote in
              let lower : p < next = in_place_after q joined p top.0 (at_in joined p top.0 top.1) in
              omega arith;
        }

        highest : (p : ℕ) → q ≤ p → (o : Option Cast) → at joined p ≡ o → NoneBelow members h quorum b p ⊎ HighestBelow members h quorum b p (proposal o)
        highest p from None is = inl (λ n c w is_of below vote. let top = ok.each n c p w is_of.1 from below vote in absurd (let e : Some top.0 ≡ None = sym top.1 ∙ is in cc (e)))
        highest p from (Some cast) is =
            let r = ok.cast p cast is in
            inr record {
              node = r.0;
              top = cast.ballot;
              is_of = (ok.member r.0 r.1, r.1);
              below = r.3;
              vote = r.2;
              highest = λ n c w is_of below vote. let top = ok.each n c p w is_of.1 from below vote in let same : top.0 ≡ cast = (let e : Some top.0 ≡ Some cast = sym top.1 ∙ is in cc (e)) in let e : top.0.ballot ≡ cast.ballot = ap (λ (x : Cast). x.ballot) same in omega (arith, top.2);
            }

        safe : (p : ℕ) → q ≤ p → IsSafe members h b p (proposal (at joined p))
        safe p from = record { quorum = quorum; promised = λ n is_of. ok.promised n is_of.1; highest = highest p from (at joined p) refl }

        -- what such a letter says
        tells : (c p : ℕ) (v : List ℕ) → IsProposed more c p v → (c ≡ b) × (q ≤ p) × (p < next) × (v ≡ proposal (at joined p))
        tells c p v is =
            let r = proposals_say members k b joined q (next - q) is.0 is.1 in
            let e : Accept c p v ≡ Accept b r.0 (proposal (at joined r.0)) = sym is.2 ∙ r.3.1 in
            let place : p ≡ r.0 = cc (e) in
            let value : v ≡ proposal (at joined r.0) = cc (e) in
            (cc (e), omega (arith, r.1), omega (arith, r.2, from_q), value ∙ ap (λ (x : ℕ). proposal (at joined x)) (sym place))

        letters : NewLetters members h sent more k
        letters = record {
          fine = λ l there. let r = proposals_say members k b joined q (next - q) l there in subst (λ (x : Note). LetterOk members h l.from x) (sym r.3.1) (safe r.0 r.1);
          own = λ c p v is. let t = tells c p v is in (ap ballot_node t.0 ∙ node, λ w was_proposed. (own c p w was_proposed (ap ballot_node t.0 ∙ node)).1 t.0);
          same = λ c p v w is also. (tells c p v is).3 ∙ sym (tells c p w also).3;
        }

        own_after : OwnOk (sent ++ more) k view.content.tried (Leading b next)
        own_after c p v is mine = ⊎_elim (λ old. ((own c p v old mine).0, λ same. absurd ((own c p v old mine).1 same))) (λ new. let t = tells c p v new in (let e : c ≡ b = t.0 in omega arith, λ same. t.2)) (proposed_split sent more c p v is)

    pub after_promise_sound : Sound members h sent k view (after_promise members k view b q counted joined)
    after_promise_sound =
        cond_both (is_majority members (λ n. list_any (nat_eq n) counted)) (sends (record view { role = Leading b next }) more) (nothing (record view { role = Preparing b q counted joined })) (λ o. Sound members h sent k view o) leads (λ few. prepares_on)

  promise_counts : (c place : ℕ) (counted : List ℕ) (joined : List (ℕ × Cast)) (b q : ℕ) (votes : List (ℕ × Cast)) (n : ℕ) → RoleOk members h k view.content.tried (Preparing c place counted joined) → OwnOk sent k view.content.tried (Preparing c place counted joined)
      → n < members → PromiseOk h n b q votes → (b ≡ c) → (q ≡ place) → Sound members h sent k view (after_promise members k view b q (n ∷ counted) (join joined votes))
  promise_counts c place counted joined b q votes n role own member ok ballot from =
      after_promise_sound b q (n ∷ counted) (join joined votes) (ap ballot_node ballot ∙ role.0) (omega (arith, role.1, ballot))
      (counts_one members h b q counted joined votes n member
      (subst (λ (x : ℕ). CountedOk members h x q counted joined) (sym ballot) (subst (λ (x : ℕ). CountedOk members h c x counted joined) (sym from) role.2)) ok)
      (λ d p v is node. ((own d p v is node).0, λ same. (own d p v is node).1 (same ∙ ballot)))

  pub promise_sound : (role : Role) (b q : ℕ) (votes : List (ℕ × Cast)) (n : ℕ) → RoleOk members h k view.content.tried role → OwnOk sent k view.content.tried role → n < members → PromiseOk h n b q votes → Sound members h sent k view (promise members k view role b q votes n)
  promise_sound Idle b q votes n role own member ok = nothing_sound members h sent states k view inv here
  promise_sound (Leading c p) b q votes n role own member ok = nothing_sound members h sent states k view inv here
  promise_sound (Preparing c place counted joined) b q votes n role own member ok =
      cond_both (b == c && q == place && not (list_any (nat_eq n) counted)) (after_promise members k view b q (n ∷ counted) (join joined votes)) (nothing view) (λ o. Sound members h sent k view o)
      (λ all.
      let x = and_parts (b == c && q == place) (not (list_any (nat_eq n) counted)) all in
      let y = and_parts (b == c) (q == place) x.0 in
      promise_counts c place counted joined b q votes n role own member ok (eqb-true b c y.0) (eqb-true q place y.1))
      (λ no. nothing_sound members h sent states k view inv here)

  -- a leader proposes at its next place
  offers : (b next : ℕ) (v : List ℕ) → RoleOk members h k view.content.tried (Leading b next) → OwnOk sent k view.content.tried (Leading b next) → Sound members h sent k view (sends (record view { role = Leading b (next + 1) }) (to_all members k (Accept b next v)))
  offers b next v role own = turns_sound members h sent states k view inv here view.hint (Leading b (next + 1)) more letters (role.0, role.1, leader) own_after
    where
      more : List Letter
      more = to_all members k (Accept b next v)

      leader : LeadsOk members h b (next + 1)
      leader = record { quorum = role.2.quorum; promised = role.2.promised; free = λ p from. role.2.free p (omega arith) }

      safe : IsSafe members h b next v
      safe = record { quorum = role.2.quorum; promised = role.2.promised; highest = inl (role.2.free next (omega arith)) }

      tells : (c p : ℕ) (w : List ℕ) → IsProposed more c p w → (c ≡ b) × (p ≡ next) × (w ≡ v)
      tells c p w is = let e : Accept c p w ≡ Accept b next v = sym is.2 ∙ (to_all_says members k (Accept b next v) is.0 is.1).1 in (cc (e), cc (e), cc (e))

      letters : NewLetters members h sent more k
      letters = record {
        fine = λ l there. let r = to_all_says members k (Accept b next v) l there in subst (λ (x : Note). LetterOk members h l.from x) (sym r.1) safe;
        own = λ c p w is. let t = tells c p w is in (ap ballot_node t.0 ∙ role.0, λ x old. let lower : p < next = (own c p x old (ap ballot_node t.0 ∙ role.0)).1 t.0 in let e : p ≡ next = t.1 in omega arith);
        same = λ c p w x is also. (tells c p w is).2 ∙ sym (tells c p x also).2;
      }

      own_after : OwnOk (sent ++ more) k view.content.tried (Leading b (next + 1))
      own_after c p w is mine = ⊎_elim (λ old. ((own c p w old mine).0, λ same. let lower : p < next = (own c p w old mine).1 same in omega arith)) (λ new. let t = tells c p w new in (let e : c ≡ b = t.0 in let le : b ≤ view.content.tried = role.1 in omega arith, λ same. let e : p ≡ next = t.1 in omega arith)) (proposed_split sent more c p w is)

  -- a call that is whole does what keeps the invariant
  abbrev pub SoundIfOk : Result Outcome Fault → Type 0
  SoundIfOk (Ok o) = Sound members h sent k view o
  SoundIfOk (Err fault) = Unit {0}

  pub offer_sound : (role : Role) (v : List ℕ) → RoleOk members h k view.content.tried role → OwnOk sent k view.content.tried role → SoundIfOk (offer members k view role v)
  offer_sound Idle v role own = tt
  offer_sound (Preparing b q counted joined) v role own = tt
  offer_sound (Leading b next) v role own =
      cond_both (nat_lt 64 (length v)) (Err Fault.ValueTooLong) (cond (nat_lt most_places next) (Err Fault.LogFull) (Ok (sends (record view { role = Leading b (next + 1) }) (to_all members k (Accept b next v))))) SoundIfOk (λ long. tt)
      (λ short. cond_both (nat_lt most_places next) (Err Fault.LogFull) (Ok (sends (record view { role = Leading b (next + 1) }) (to_all members k (Accept b next v)))) SoundIfOk (λ full. tt) (λ room. offers b next v role own))

  -- a node that tries a ballot above all that it tried before
  pub lead_sound : (b : ℕ) → IsLeastAbove (limit view) k b → Sound members h sent k view (lead_with members k view b)
  lead_sound b least = record {
    write = omega (arith, above);
    content = refl;
    letters = quiet_letters members h sent more k quiet;
    role = (least.0.2, omega arith, record { member = λ n is. absurd (cc (is)); promised = λ n is. absurd (cc (is)); cast = λ p x is. absurd (cc (is)); each = λ n c p v is from below vote. absurd (cc (is)) });
    own = quiet_own members h sent more k b (Preparing b q [] []) quiet own;
    counted = was.counted;
    learned = was.learned;
    written = was.written;
  }
    where
      q : ℕ
      q = length (gapless view) + 1

      more : List Letter
      more = to_all members k (Prepare b q)

      above : view.content.tried < b
      above = omega (arith, least.1)

      quiet : (l : Letter) → IsIn more l → LetterOk members h l.from l.note × IsOther l.note
      quiet = quiet_all members h members k (Prepare b q) tt tt

      own : OwnOk sent k b (Preparing b q [] [])
      own c p v is node = let le : c ≤ view.content.tried = (was.own c p v is node).0 in (omega (arith, above), λ same. omega (arith, above))
