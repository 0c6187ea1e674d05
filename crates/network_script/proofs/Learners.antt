-- A node that counts a vote, or hears of a higher ballot, does what keeps the invariant.
use Rattle.std.proofs.Common.{◌≡◌, ⊎_elim, ℕ, ◌*◌, true, cond, nat_lt, List, [], refl, sym, subst, Option, Some, None}
use Rattle.std.proofs.Common.{slice_get}
use Rattle.std.proofs.lemmas.Bool.{cond_both, ltb-true}
use Rattle.ballots.specs.declared.letters.Letter.{Letter}
use Rattle.ballots.specs.Voting.{Entry, IsIn, IsChosen, count_below}
use Rattle.ballots.specs.Voting.Entry.{Vote}
use Rattle.proposer.specs.declared.role.Role.{Role}
use Rattle.node.specs.View.{View, Standing}
use Rattle.proposer.specs.declared.role.Role.TheVariants.{Idle, Preparing, Leading}
use Rattle.node.specs.View.Standing.{Running}
use Rattle.node.specs.Step.{nothing, learns, voted}
use Rattle.learner.specs.Tally.{Groups, IsVoteCounted, is_majority, is_voter, put_voters, with_voter}
use Rattle.learner.proofs.Callers.{counted_more, voter_counted}
use Rattle.proposer.specs.Roles.{role_after}
use Rattle.network_script.proofs.Invariant.{OwnOk, RoleOk, UpOk, Invariant}
use Rattle.network_script.proofs.Acceptors.{counts_sound, learns_sound, nothing_sound, quiet_none, turns_sound}
use Rattle.network_script.proofs.Sound.{Sound, quiet_letters, quiet_own}

-- each vote that is counted was cast
abbrev pub AreCast : List Entry → List (ℕ × Groups) → Type 0
AreCast h counted = (n b p : ℕ) (v : List ℕ) → IsVoteCounted counted n b p v → IsIn h (Vote n b p v)

is_cast : (h : List Entry) (n b p : ℕ) (v : List ℕ) → IsIn h (Vote n b p v) → (m c q : ℕ) (w : List ℕ) → (m ≡ n) × (c ≡ b) × (q ≡ p) × (w ≡ v) → IsIn h (Vote m c q w)
is_cast h n b p v vote m c q w same = subst (λ (e : Entry). IsIn h e) (λ i. Vote (sym same.0 i) (sym same.1 i) (sym same.2 i) (sym same.3 i)) vote

count_cast : (h : List Entry) (counted : List (ℕ × Groups)) (n b p : ℕ) (v : List ℕ) → AreCast h counted → IsIn h (Vote n b p v) → AreCast h (put_voters counted b p v (with_voter counted n b p v))
count_cast h counted n b p v cast vote m c q w is = ⊎_elim (is_cast h n b p v vote m c q w) (cast m c q w) (counted_more counted n b p v m c q w is)

voter_cast : (h : List Entry) (counted : List (ℕ × Groups)) (n b p : ℕ) (v : List ℕ) → AreCast h counted → IsIn h (Vote n b p v) → (m : ℕ) → is_voter (with_voter counted n b p v) m ≡ true → IsIn h (Vote m b p v)
voter_cast h counted n b p v cast vote m is = ⊎_elim (λ same. is_cast h n b p v vote m b p v (same, refl, refl, refl)) (cast m b p v) (voter_counted counted n b p v m is)

module _ (members : ℕ) (h : List Entry) (sent : List Letter) (states : List Standing) (k : ℕ) (view : View) (inv : Invariant members h sent states) (here : slice_get states k ≡ Some (Running view)) where
  was : UpOk members h sent k view
  was = inv.nodes k (Running view) here

  pub voted_sound : (there : Option (List ℕ)) (b p : ℕ) (v : List ℕ) (n : ℕ) → IsIn h (Vote n b p v) → Sound members h sent k view (voted members view there b p v n)
  voted_sound (Some value) b p v n vote = nothing_sound members h sent states k view inv here
  voted_sound None b p v n vote =
      let voters = with_voter view.tally.counted n b p v in
      let counted = put_voters view.tally.counted b p v voters in
      let chosen : is_majority members (is_voter voters) ≡ true → IsChosen members h p v = λ most. record {
        ballot = b;
        quorum = record { set = is_voter voters; majority = ltb-true members (2 * count_below (is_voter voters) members) most };
        votes = λ m is_of. voter_cast h view.tally.counted n b p v was.counted vote m is_of.1;
      } in
      cond_both (is_majority members (is_voter voters)) (learns view p v) (nothing (record view { tally = record { counted = counted; learned = view.tally.learned } })) (λ o. Sound members h sent k view o)
      (λ most. learns_sound members h sent states k view inv here p v (chosen most))
      (λ few. counts_sound members h sent states k view inv here (record view { tally = record { counted = counted; learned = view.tally.learned } }) refl refl (count_cast h view.tally.counted n b p v was.counted vote) was.learned refl)

  -- a view that differs in its hint and perhaps gives its role up
  pub role_sound : (hint : ℕ) (role : Role) → RoleOk members h k view.content.tried role → OwnOk sent k view.content.tried role → Sound members h sent k view (nothing (record view { hint = hint; role = role }))
  role_sound hint role ok own = turns_sound members h sent states k view inv here hint role [] (quiet_letters members h sent [] k (quiet_none members h)) ok (quiet_own members h sent [] k view.content.tried role (quiet_none members h) own)

  idle_or_not : (hint c b : ℕ) (role : Role) → RoleOk members h k view.content.tried role → OwnOk sent k view.content.tried role
      → Sound members h sent k view (nothing (record view { hint = hint; role = cond (nat_lt c b) Idle role }))
  idle_or_not hint c b role ok own =
      cond_both (nat_lt c b) Idle role (λ (r : Role). Sound members h sent k view (nothing (record view { hint = hint; role = r }))) (λ less. role_sound hint Idle tt (λ d p v is node. ((own d p v is node).0, tt)))
      (λ no. role_sound hint role ok own)

  pub higher_sound : (b hint : ℕ) (role : Role) → RoleOk members h k view.content.tried role → OwnOk sent k view.content.tried role → Sound members h sent k view (nothing (record view { hint = hint; role = role_after role b }))
  higher_sound b hint Idle ok own = role_sound hint Idle ok own
  higher_sound b hint (Preparing c q counted joined) ok own = idle_or_not hint c b (Preparing c q counted joined) ok own
  higher_sound b hint (Leading c next) ok own = idle_or_not hint c b (Leading c next) ok own
