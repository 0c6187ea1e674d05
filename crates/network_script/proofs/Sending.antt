-- What the lists of letters that a call sends hold.
use Rattle.std.proofs.Common.{◌≡◌, inl, inr, ⊎_elim, ℕ, zero, suc, ◌+◌, ◌<◌, ◌≤◌, List, [], ◌∷◌, refl, ap, arith}
use Rattle.ballots.specs.declared.letters.Cast.{Cast}
use Rattle.ballots.specs.declared.letters.Note.{Note}
use Rattle.ballots.specs.declared.letters.Letter.{Letter}
use Rattle.ballots.specs.declared.letters.Note.TheVariants.{Accept, Known}
use Rattle.ballots.specs.Voting.{IsIn}
use Rattle.ballots.specs.Rows.{at}
use Rattle.node.specs.Step.{letter, to_all, known_letters, proposals}
use Rattle.proposer.specs.Joining.{proposal, place_after}
use Rattle.network_script.proofs.Lists.{in_append}

-- the sender and the note of a letter
abbrev pub Says : Letter → ℕ → Note → Type 0
Says l from note = (l.from ≡ from) × (l.note ≡ note)

pub says_letter : (l : Letter) (from to : ℕ) (note : Note) → l ≡ letter from to note → Says l from note
says_letter l from to note is = (ap (λ (x : Letter). x.from) is, ap (λ (x : Letter). x.note) is)

pub to_all_says : (n from : ℕ) (note : Note) (l : Letter) → IsIn (to_all n from note) l → Says l from note
to_all_says zero from note l here = absurd here
to_all_says (suc n) from note l here = ⊎_elim (λ old. to_all_says n from note l old) (λ new. ⊎_elim (λ is. says_letter l from n note is) (λ none. absurd none) new) (in_append (to_all n from note) (letter from n note ∷ []) l here)

pub known_says : (me n : ℕ) (rows : List (ℕ × List ℕ)) (l : Letter) → IsIn (known_letters me n rows) l → (p : ℕ) × (v : List ℕ) × IsIn rows (p, v) × Says l me (Known p v)
known_says me n [] l here = absurd here
known_says me n (row ∷ rows) l (inl is) = (row.0, row.1, inl refl, says_letter l me n (Known row.0 row.1) is)
known_says me n (row ∷ rows) l (inr there) = let r = known_says me n rows l there in (r.0, r.1, inr r.2, r.3)

pub proposals_say : (members me b : ℕ) (joined : List (ℕ × Cast)) (p n : ℕ) (l : Letter) → IsIn (proposals members me b joined p n) l
    → (q : ℕ) × (p ≤ q) × (q < p + n) × Says l me (Accept b q (proposal (at joined q)))
proposals_say members me b joined p zero l here = absurd here
proposals_say members me b joined p (suc n) l here =
    ⊎_elim (λ first. (p, omega arith, omega arith, to_all_says members me (Accept b p (proposal (at joined p))) l first))
    (λ later. let r = proposals_say members me b joined (p + 1) n l later in (r.0, omega (arith, r.1), omega (arith, r.2), r.3))
    (in_append (to_all members me (Accept b p (proposal (at joined p)))) (proposals members me b joined (p + 1) n) l here)

pub least_place_after : (q : ℕ) (votes : List (ℕ × Cast)) → q ≤ place_after q votes
least_place_after q [] = omega arith
least_place_after q (vote ∷ votes) = omega (arith, least_place_after q votes)

pub in_place_after : (q : ℕ) (votes : List (ℕ × Cast)) (p : ℕ) (cast : Cast) → IsIn votes (p, cast) → p < place_after q votes
in_place_after q [] p cast here = absurd here
in_place_after q (vote ∷ votes) p cast (inl is) = let e : p ≡ vote.0 = ap (λ (r : ℕ × Cast). r.0) is in omega arith
in_place_after q (vote ∷ votes) p cast (inr there) = omega (arith, in_place_after q votes p cast there)
