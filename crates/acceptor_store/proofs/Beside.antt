-- The greatest ballot of the votes, where one is put at a place.
use Rattle.std.proofs.Common.{◌≡◌, inl, inr, ℕ, ◌+◌, ◌<◌, ◌≤◌, ◌==◌, max, Bool, true, false, if◌then◌else◌, List, []}
use Rattle.std.proofs.Common.{◌∷◌, Some, refl, ap, ◌∙◌, arith}
use Rattle.acceptor_store.proofs.Words.{nat_tests, Cast, put, in_order, put_before, put_here, put_after, Content}
use Rattle.acceptor_store.proofs.Words.{AreRowsFrom, after_write, greatest, promised, Promises, Votes, greatest_apart}
use Rattle.acceptor_store.proofs.Words.{replaced, greatest_beside}

-- a ballot that isn't below the promised one is promised then
pub raised_row : (ballot : ℕ) (c : Content) → promised c ≤ ballot → ballot ≡ promised (after_write c (Some (Promises ballot)))
raised_row ballot c low = omega (arith, low, greatest_apart c.row c.votes, greatest_apart ballot c.votes)

pub raised_vote : (place : ℕ) (cast : Cast) (c : Content) → promised c ≤ cast.ballot → cast.ballot ≡ promised (after_write c (Some (Votes place cast)))
raised_vote place cast c low = let it = replaced c.row c.votes place cast in omega (arith, low, it.1, it.2)

picks : (t : Bool) (b w x y : ℕ) → x ≡ max y b → (if t then x else max w x) ≡ max (if t then y else max w y) b
picks true b w x y e = e
picks false b w x y e = omega (arith, e)

beside_max : (p m b : ℕ) (votes : List (ℕ × Cast)) → greatest_beside p (max m b) votes ≡ max (greatest_beside p m votes) b
beside_max p m b [] = refl
beside_max p m b (vote ∷ votes) = picks (vote.0 == p) b vote.1.ballot (greatest_beside p (max m b) votes) (greatest_beside p m votes) (beside_max p m b votes)

-- one more vote is taken first
nexts : (t : Bool) (m b : ℕ) → (y : ℕ → ℕ) → ((k : ℕ) → y (max m k) ≡ max (y m) k) → y (if t then m else max m b) ≡ (if t then y m else max b (y m))
nexts true m b y e = refl
nexts false m b y e = omega (arith, e b)

pub beside_next : (p m : ℕ) (vote : ℕ × Cast) (votes : List (ℕ × Cast)) → greatest_beside p (if vote.0 == p then m else max m vote.1.ballot) votes ≡ greatest_beside p m (vote ∷ votes)
beside_next p m vote votes = nexts (vote.0 == p) m vote.1.ballot (λ n. greatest_beside p n votes) (λ k. beside_max p m k votes)

beyond : (p q m : ℕ) (votes : List (ℕ × Cast)) → AreRowsFrom q votes → p < q → greatest_beside p m votes ≡ greatest m votes
beyond p q m [] rows low = refl
beyond p q m (vote ∷ votes) rows low =
    let other : (vote.0 == p) ≡ false = grind (arith, nat_tests, rows.0, low) in
    rw other (ap (max vote.1.ballot) (beyond p (vote.0 + 1) m votes rows.2 (omega (arith, rows.0, low))))

pub put_beside : (p q m : ℕ) (cast : Cast) (votes : List (ℕ × Cast)) → AreRowsFrom q votes → greatest m (put votes p cast) ≡ greatest_beside p (max m cast.ballot) votes
put_beside p q m cast [] rows = omega arith
put_beside p q m cast (vote ∷ votes) rows = elim (in_order p vote.0) [
  | inl lt ↦
      let here : AreRowsFrom vote.0 (vote ∷ votes) = (omega arith, rows.1, rows.2) in
      ap (greatest m) (put_before vote.0 vote.1 votes p cast lt) ∙ omega (arith, beside_max p m cast.ballot (vote ∷ votes), beyond p vote.0 m (vote ∷ votes) here lt)
  | inr (inl is) ↦
      let same : (vote.0 == p) ≡ true = grind (arith, nat_tests, is) in
      ap (greatest m) (put_here vote.0 vote.1 votes p cast is) ∙ rw same (omega (arith, beside_max p m cast.ballot votes, beyond p (vote.0 + 1) m votes rows.2 (omega (arith, is))))
  | inr (inr gt) ↦
      let other : (vote.0 == p) ≡ false = grind (arith, nat_tests, gt) in
      ap (greatest m) (put_after vote.0 vote.1 votes p cast gt) ∙ rw other (ap (max vote.1.ballot) (put_beside p (vote.0 + 1) m cast votes rows.2))
]
