-- What crates above cite: which votes are counted once one more is, or once a place is learned.
use Rattle.std.proofs.Common.{◌≡◌, ◌⊎◌, inl, inr, ⊎_elim, ℕ, zero, suc, Bool, true, false, cond, List, [], ◌∷◌, Option}
use Rattle.std.proofs.Common.{Some, None, refl, sym, ap, subst, ◌∙◌, replicate, slice_set, unwrap_or}
use Rattle.std.specs.Map.{lookup, remove_entry}
use Rattle.std.specs.BTreeMap.{insert_entry, is_at}
use Rattle.std.specs.Ordering.{is_eq, match_ordering}
use Rattle.std.specs.declared.cmp.Ordering.{Ordering}
use Rattle.std.specs.declared.cmp.Ordering.TheVariants.{Less, Equal, Greater}
use Rattle.std.proofs.lemmas.Map.Lookups.{exact_bytes}
use Rattle.ballots.specs.Rows.{at, put}
use Rattle.ballots.specs.Voting.{IsIn}
use Rattle.ballots.proofs.Callers.{at_in, in_put}
use Rattle.learner.specs.Proposals.{Proposal, proposal_cmp, proposal_of}
use Rattle.learner.specs.Tally.{Groups, IsVoteCounted, groups_at, is_voter, nobody, put_voters, voters_in, with_voter}

is_equal : (o : Ordering) → is_eq o ≡ true → o ≡ Equal
is_equal Less is = absurd (cc (is))
is_equal Equal is = refl
is_equal Greater is = absurd (cc (is))

-- proposals that compare as equal are one
same_proposal : (one other : Proposal) → proposal_cmp one other ≡ Equal → one ≡ other
same_proposal one other is =
    let same : one.ballot ∷ one.value ≡ other.ballot ∷ other.value = exact_bytes (one.ballot ∷ one.value) (other.ballot ∷ other.value) is in
    let ballot : one.ballot ≡ other.ballot = cc (same) in
    let value : one.value ≡ other.value = cc (same) in
    (λ i. record { ballot = ballot i; value = value i })

-- what is found for a proposal is what was put, or what was there
abbrev Found : Groups → Proposal → List Bool → Proposal → List Bool → Type 0
Found groups one put other found = ((other ≡ one) × (found ≡ put)) ⊎ (lookup (is_at (proposal_cmp other)) groups ≡ Some found)

-- a look-up, by whether the first row is at the proposal
first_or : {P : Type 0} (b : Bool) (x : List Bool) (rest : Option (List Bool)) (found : List Bool) → cond b (Some x) rest ≡ Some found → (b ≡ true → found ≡ x → P) → (b ≡ false → rest ≡ Some found → P) → P
first_or true x rest found is here there = let same : found ≡ x = cc (is) in here refl same
first_or false x rest found is here there = there refl is

module _ (one : Proposal) (voters : List Bool) (other : Proposal) (found : List Bool) where
  pub found_put : (groups : Groups) → lookup (is_at (proposal_cmp other)) (insert_entry proposal_cmp groups one voters) ≡ Some found → Found groups one voters other found
  found_put [] is = first_or (is_eq (proposal_cmp other one)) voters None found is (λ equal same. inl (same_proposal other one (is_equal (proposal_cmp other one) equal), same)) (λ other_one none. absurd (cc (none)))
  found_put (row ∷ groups) is = by_order (proposal_cmp one row.0) refl is (found_put groups)
    where
      later : (o : Bool) → is_eq (proposal_cmp other row.0) ≡ o → o ≡ false → lookup (is_at (proposal_cmp other)) groups ≡ Some found → lookup (is_at (proposal_cmp other)) (row ∷ groups) ≡ Some found
      later o is not_so there = ap (λ b. cond b (Some row.1) (lookup (is_at (proposal_cmp other)) groups)) (is ∙ not_so) ∙ there

      by_order : (o : Ordering) → proposal_cmp one row.0 ≡ o → lookup (is_at (proposal_cmp other)) (match_ordering o ((one, voters) ∷ row ∷ groups) ((row.0, voters) ∷ groups) (row ∷ insert_entry proposal_cmp groups one voters)) ≡ Some found
          → (lookup (is_at (proposal_cmp other)) (insert_entry proposal_cmp groups one voters) ≡ Some found → Found groups one voters other found) → Found (row ∷ groups) one voters other found
      by_order Less order is rest = first_or (is_eq (proposal_cmp other one)) voters (lookup (is_at (proposal_cmp other)) (row ∷ groups)) found is (λ equal same. inl (same_proposal other one (is_equal (proposal_cmp other one) equal), same)) (λ not_so there. inr there)
      by_order Equal order is rest =
          first_or (is_eq (proposal_cmp other row.0)) voters (lookup (is_at (proposal_cmp other)) groups) found is
          (λ equal same. inl (same_proposal other row.0 (is_equal (proposal_cmp other row.0) equal) ∙ sym (same_proposal one row.0 order), same))
          (λ not_so there. inr (later (is_eq (proposal_cmp other row.0)) refl not_so there))
      by_order Greater order is rest =
          first_or (is_eq (proposal_cmp other row.0)) row.1 (lookup (is_at (proposal_cmp other)) (insert_entry proposal_cmp groups one voters)) found is
          (λ equal same. inr (ap (λ b. cond b (Some row.1) (lookup (is_at (proposal_cmp other)) groups)) equal ∙ ap Some (sym same)))
          (λ not_so there. ⊎_elim (λ new. inl new) (λ old. inr (later (is_eq (proposal_cmp other row.0)) refl not_so old)) (rest there))

-- a node is a voter once one more is: it is that one, or was one
voter_more : (voters : List Bool) (n m : ℕ) → is_voter (slice_set voters n true) m ≡ true → (m ≡ n) ⊎ (is_voter voters m ≡ true)
voter_more [] n m is = inr is
voter_more (x ∷ voters) zero zero is = inl refl
voter_more (x ∷ voters) zero (suc m) is = inr is
voter_more (x ∷ voters) (suc n) zero is = inr is
voter_more (x ∷ voters) (suc n) (suc m) is = ⊎_elim (λ same. inl (ap suc same)) (λ was. inr was) (voter_more voters n m is)

nobody_is : (k m : ℕ) → is_voter (replicate k false) m ≡ true → ⊥
nobody_is zero m is = absurd (cc (is))
nobody_is (suc k) zero is = absurd (cc (is))
nobody_is (suc k) (suc m) is = nobody_is k m is

-- a voter at p is a voter of the row there
voter_of_row : (counted : List (ℕ × Groups)) (b p : ℕ) (v : List ℕ) (m : ℕ) (o : Option Groups) → at counted p ≡ o → is_voter (voters_in (unwrap_or o []) b v) m ≡ true → IsVoteCounted counted m b p v
voter_of_row counted b p v m None none is = absurd (nobody_is 5 m is)
voter_of_row counted b p v m (Some groups) some is = (groups, at_in counted p groups some, is)

-- a voter with node n's vote is n, or is counted
pub voter_counted : (counted : List (ℕ × Groups)) (n b p : ℕ) (v : List ℕ) (m : ℕ) → is_voter (with_voter counted n b p v) m ≡ true → (m ≡ n) ⊎ IsVoteCounted counted m b p v
voter_counted counted n b p v m is = ⊎_elim (λ same. inl same) (λ was. inr (voter_of_row counted b p v m (at counted p) refl was)) (voter_more (voters_in (groups_at counted p) b v) n m is)

-- the row at p with node n's vote
abbrev row_with : List (ℕ × Groups) → ℕ → ℕ → ℕ → List ℕ → Groups
row_with counted n b p v = insert_entry proposal_cmp (groups_at counted p) (proposal_of b v) (with_voter counted n b p v)

-- a vote that is counted is node n's new one, or was counted
pub counted_more : (counted : List (ℕ × Groups)) (n b p : ℕ) (v : List ℕ) (m c q : ℕ) (w : List ℕ) → IsVoteCounted (put_voters counted b p v (with_voter counted n b p v)) m c q w
    → ((m ≡ n) × (c ≡ b) × (q ≡ p) × (w ≡ v)) ⊎ IsVoteCounted counted m c q w
counted_more counted n b p v m c q w (groups, here, is) = ⊎_elim new (λ old. inr (groups, old, is)) (in_put counted p (row_with counted n b p v) q groups here)
  where
    same_so : q ≡ p → ((c ≡ b) × (w ≡ v)) → is_voter (with_voter counted n b p v) m ≡ true → ((m ≡ n) × (c ≡ b) × (q ≡ p) × (w ≡ v)) ⊎ IsVoteCounted counted m c q w
    same_so place same voter =
        ⊎_elim (λ me. inl (me, same.0, place, same.1)) (λ was. inr (subst (λ (x : ℕ). IsVoteCounted counted m c x w) (sym place) (subst (λ (x : ℕ). IsVoteCounted counted m x p w) (sym same.0) (subst (λ (x : List ℕ). IsVoteCounted counted m b p x) (sym same.1) was))))
        (voter_counted counted n b p v m voter)

    by_look : (o : Option (List Bool)) → lookup (is_at (proposal_cmp (proposal_of c w))) (row_with counted n b p v) ≡ o → is_voter (unwrap_or o nobody) m ≡ true → q ≡ p → ((m ≡ n) × (c ≡ b) × (q ≡ p) × (w ≡ v)) ⊎ IsVoteCounted counted m c q w
    by_look None look voter place = absurd (nobody_is 5 m voter)
    by_look (Some found) look voter place =
        ⊎_elim (λ same. same_so place (ap (λ (x : Proposal). x.ballot) same.0, ap (λ (x : Proposal). x.value) same.0) (subst (λ (s : List Bool). is_voter s m ≡ true) same.1 voter))
        (λ old. inr (subst (λ (x : ℕ). IsVoteCounted counted m c x w) (sym place) (voter_of_row counted c p w m (at counted p) refl (subst (λ (o : Option (List Bool)). is_voter (unwrap_or o nobody) m ≡ true) (sym old) voter))))
        (found_put (proposal_of b v) (with_voter counted n b p v) (proposal_of c w) found (groups_at counted p) look)

    new : (q ≡ p) × (groups ≡ row_with counted n b p v) → ((m ≡ n) × (c ≡ b) × (q ≡ p) × (w ≡ v)) ⊎ IsVoteCounted counted m c q w
    new at_place = by_look (lookup (is_at (proposal_cmp (proposal_of c w))) (row_with counted n b p v)) refl (subst (λ (g : Groups). is_voter (voters_in g c w) m ≡ true) at_place.1 is) at_place.0

in_removed : (test : ℕ → Bool) (rows : List (ℕ × Groups)) (x : ℕ × Groups) → IsIn (remove_entry test rows) x → IsIn rows x
in_removed test [] x here = here
in_removed test (row ∷ rows) x here = by_test (test row.0) here (in_removed test rows x)
  where
    by_test : (b : Bool) → IsIn (cond b rows (row ∷ remove_entry test rows)) x → (IsIn (remove_entry test rows) x → IsIn rows x) → IsIn (row ∷ rows) x
    by_test true here rest = inr here
    by_test false (inl same) rest = inl same
    by_test false (inr there) rest = inr (rest there)

-- a vote that is still counted once a place was learned was counted before
pub counted_less : (test : ℕ → Bool) (counted : List (ℕ × Groups)) (m c q : ℕ) (w : List ℕ) → IsVoteCounted (remove_entry test counted) m c q w → IsVoteCounted counted m c q w
counted_less test counted m c q w (groups, here, is) = (groups, in_removed test counted (q, groups) here, is)
