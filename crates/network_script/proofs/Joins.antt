-- What joined votes hold: at each place the one of the highest ballot.
use Rattle.std.proofs.Common.{◌≡◌, ◌⊎◌, inl, inr, ⊎_elim, ℕ, ◌≤◌, Bool, true, false, cond, nat_lt, List, [], ◌∷◌, refl}
use Rattle.std.proofs.Common.{sym, ◌∙◌, ap, subst, arith, Option, Some, None}
use Rattle.std.proofs.lemmas.Bool.{cases_eq, ltb-true, ltb-false}
use Rattle.ballots.specs.declared.letters.Cast.{Cast}
use Rattle.ballots.specs.Voting.{IsIn}
use Rattle.ballots.specs.Rows.{at, put}
use Rattle.proposer.specs.Joining.{join_one, join}
use Rattle.network_script.proofs.Rows.{at_put_same, at_put_other}

abbrev Rows : Type 0
Rows = List (ℕ × Cast)

-- at the place, a vote of ballot c or a higher one
abbrev pub HasAbove : Rows → ℕ → ℕ → Type 0
HasAbove joined p c = (cast : Cast) × (at joined p ≡ Some cast) × (c ≤ cast.ballot)

-- what joining one vote at p0 leaves
record Joined (old : Rows) (p : ℕ) (cast : Cast) (new : Rows) : Type 0 where
  up : (j c : ℕ) → HasAbove old j c → HasAbove new j c
  here : HasAbove new p cast.ballot
  from : (j : ℕ) (x : Cast) → at new j ≡ Some x → (at old j ≡ Some x) ⊎ ((j ≡ p) × (x ≡ cast))

put_joined : (old : Rows) (p : ℕ) (cast : Cast) → ((other : Cast) → at old p ≡ Some other → other.ballot ≤ cast.ballot) → Joined old p cast (put old p cast)
put_joined old p cast above = record {
  up = λ j c has. up j c has (cases_eq j p);
  here = (cast, at_put_same old p cast, omega arith);
  from = λ j x is. from j x is (cases_eq j p);
}
  where
    up : (j c : ℕ) → HasAbove old j c → (j ≡ p) ⊎ (j ≡ p → ⊥) → HasAbove (put old p cast) j c
    up j c has (inl same) =
        let le : has.0.ballot ≤ cast.ballot = above has.0 (subst (λ (q : ℕ). at old q ≡ Some has.0) same has.1) in
        (cast, subst (λ (q : ℕ). at (put old p cast) q ≡ Some cast) (sym same) (at_put_same old p cast), omega (arith, has.2))
    up j c has (inr other) = (has.0, at_put_other old p cast j other ∙ has.1, has.2)

    from : (j : ℕ) (x : Cast) → at (put old p cast) j ≡ Some x → (j ≡ p) ⊎ (j ≡ p → ⊥) → (at old j ≡ Some x) ⊎ ((j ≡ p) × (x ≡ cast))
    from j x is (inl same) = let e : Some x ≡ Some cast = sym is ∙ ap (λ (q : ℕ). at (put old p cast) q) same ∙ at_put_same old p cast in inr (same, cc (e))
    from j x is (inr other) = inl (sym (at_put_other old p cast j other) ∙ is)

keep_joined : (old : Rows) (p : ℕ) (cast other : Cast) → at old p ≡ Some other → cast.ballot ≤ other.ballot → Joined old p cast old
keep_joined old p cast other is le = record { up = λ j c has. has; here = (other, is, le); from = λ j x was. inl was }

one_joined : (old : Rows) (p : ℕ) (cast : Cast) (there : Option Cast) → at old p ≡ there → Joined old p cast (join_one old p cast there)
one_joined old p cast None is = put_joined old p cast (λ other also. absurd (cc (is, also)))
one_joined old p cast (Some other) is = by_test (nat_lt other.ballot cast.ballot) refl
  where
    by_test : (b : Bool) → nat_lt other.ballot cast.ballot ≡ b → Joined old p cast (cond b (put old p cast) old)
    by_test true less = put_joined old p cast (λ x also. let same : x ≡ other = cc (is, also) in let e : x.ballot ≡ other.ballot = ap (λ (y : Cast). y.ballot) same in omega (arith, ltb-true other.ballot cast.ballot less))
    by_test false less = keep_joined old p cast other is (ltb-false other.ballot cast.ballot less)

pub join_up : (joined votes : Rows) (p c : ℕ) → HasAbove joined p c → HasAbove (join joined votes) p c
join_up joined [] p c has = has
join_up joined (vote ∷ votes) p c has = join_up (join_one joined vote.0 vote.1 (at joined vote.0)) votes p c ((one_joined joined vote.0 vote.1 (at joined vote.0) refl).up p c has)

pub join_in : (joined votes : Rows) (p : ℕ) (cast : Cast) → IsIn votes (p, cast) → HasAbove (join joined votes) p cast.ballot
join_in joined [] p cast here = absurd here
join_in joined (vote ∷ votes) p cast (inl is) =
    subst (λ (r : ℕ × Cast). HasAbove (join joined (vote ∷ votes)) r.0 r.1.ballot) (sym is)
    (join_up (join_one joined vote.0 vote.1 (at joined vote.0)) votes vote.0 vote.1.ballot (one_joined joined vote.0 vote.1 (at joined vote.0) refl).here)
join_in joined (vote ∷ votes) p cast (inr there) = join_in (join_one joined vote.0 vote.1 (at joined vote.0)) votes p cast there

pub join_from : (joined votes : Rows) (p : ℕ) (cast : Cast) → at (join joined votes) p ≡ Some cast → (at joined p ≡ Some cast) ⊎ IsIn votes (p, cast)
join_from joined [] p cast is = inl is
join_from joined (vote ∷ votes) p cast is =
    ⊎_elim (λ old. ⊎_elim (λ was. inl was) (λ new. inr (inl (λ i. (new.0 i, new.1 i)))) ((one_joined joined vote.0 vote.1 (at joined vote.0) refl).from p cast old)) (λ there. inr (inr there))
    (join_from (join_one joined vote.0 vote.1 (at joined vote.0)) votes p cast is)
