-- Whether one more vote teaches its value.
use Rattle.std.proofs.Common.{◌≡◌, ℕ, ◌*◌, ◌<◌, ◌≤◌, Bool, List, Option, Some, None, is_some, sym, refl, false, true}
use Rattle.std.proofs.lemmas.Bool.{lt-ltb, le-ltb}
use Rattle.ballots.specs.Voting.{count_below}
use Rattle.learner.specs.Tally.{Tally, is_voter, teaches, with_voter}

pub is_nothing : {X : Type 0} (o : Option X) → is_some o ≡ false → o ≡ None
is_nothing None is = refl
is_nothing (Some x) is = absurd (cc (is))

module _ (members : ℕ) (tally : Tally) (n b p : ℕ) (v : List ℕ) where
  abbrev voters : List Bool
  voters = with_voter tally.counted n b p v

  pub teaches_so : (o : Option (List ℕ)) → o ≡ None → members < 2 * count_below (is_voter voters) members → true ≡ teaches members tally o b p v n
  teaches_so (Some w) none most = absurd (cc (none))
  teaches_so None none most = sym (lt-ltb members (2 * count_below (is_voter voters) members) most)

  pub teaches_not : (o : Option (List ℕ)) → o ≡ None → 2 * count_below (is_voter voters) members ≤ members → false ≡ teaches members tally o b p v n
  teaches_not (Some w) none few = absurd (cc (none))
  teaches_not None none few = sym (le-ltb members (2 * count_below (is_voter voters) members) few)
