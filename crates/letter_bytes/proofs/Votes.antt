-- Votes that are read are those that were written, and what was written is read again.
use Rattle.std.proofs.Common.{◌≡◌, ℕ, zero, suc, List, [], ◌∷◌, ◌++◌, length, Ok, refl, ap, subst, ◌∙◌, append_assoc}
use Rattle.std.specs.List.{flat_map, AllByRecursion}
use Rattle.std.proofs.lemmas.List.Concat.{flat_map-cons}
use Rattle.ballots.specs.declared.letters.Cast.{Cast}
use Rattle.letter_bytes.specs.Spelling.{number, value_spelling, vote_spelling, FitsVote}
use Rattle.letter_bytes.specs.Reading.{◌>>=◌, AreBytes, ballot_at, number_at, value_at, vote_at, votes_in}
use Rattle.letter_bytes.proofs.Fields.{bind_ok, ok_is, Begins, Begins-then, number_begins, number_again, ballot_begins}
use Rattle.letter_bytes.proofs.Fields.{ballot_again, value_begins, value_again}

abbrev cast : ℕ → List ℕ → Cast
cast b v = record { ballot = b; value = v }

vote_begins : (bytes : List ℕ) (x : (ℕ × Cast) × List ℕ) → AreBytes bytes → vote_at bytes ≡ Ok x → Begins bytes (vote_spelling x.0) x.1 × FitsVote x.0
unfolding vote_at
vote_begins bytes x fits e =
    let p = bind_ok (number_at bytes) (λ p. ballot_at p.1 >>= λ b. value_at b.1 >>= λ v. Ok ((p.0, cast b.0 v.0), v.1)) x e in
    let b = bind_ok (ballot_at p.0.1) (λ b. value_at b.1 >>= λ v. Ok ((p.0.0, cast b.0 v.0), v.1)) x p.2 in
    let v = bind_ok (value_at b.0.1) (λ v. Ok ((p.0.0, cast b.0.0 v.0), v.1)) x b.2 in
    let place = number_begins bytes p.0.0 p.0.1 fits p.1 in
    let ballot = ballot_begins p.0.1 b.0 place.0.rest_fits b.1 in
    let value = value_begins b.0.1 v.0.0 v.0.1 ballot.0.rest_fits v.1 in
    let behind = Begins-then p.0.1 (number b.0.0) b.0.1 (value_spelling v.0.0) v.0.1 ballot.0 value.0 in
    let whole = Begins-then bytes (number p.0.0) p.0.1 (number b.0.0 ++ value_spelling v.0.0) v.0.1 place.0 behind in
    let made : (ℕ × Cast) × List ℕ = ((p.0.0, cast b.0.0 v.0.0), v.0.1) in
    subst (λ (y : (ℕ × Cast) × List ℕ). Begins bytes (vote_spelling y.0) y.1 × FitsVote y.0) (ok_is made x v.2) (whole, record { place = place.1; ballot = ballot.1; value = value.1 })

vote_again : (row : ℕ × Cast) (rest : List ℕ) → FitsVote row → vote_at (vote_spelling row ++ rest) ≡ Ok (row, rest)
unfolding vote_at
vote_again row rest fits =
    let value : List ℕ = value_spelling row.1.value ++ rest in
    let regrouped : vote_spelling row ++ rest ≡ number row.0 ++ (number row.1.ballot ++ value) =
    append_assoc (number row.0) (number row.1.ballot ++ value_spelling row.1.value) rest ∙ ap (λ (x : List ℕ). number row.0 ++ x) (append_assoc (number row.1.ballot) (value_spelling row.1.value) rest) in
    ap vote_at regrouped ∙ rw (number_again row.0 (number row.1.ballot ++ value) fits.place, ballot_again row.1.ballot value fits.ballot, value_again row.1.value rest fits.value) refl

pub votes_begin : (n : ℕ) (bytes : List ℕ) (x : List (ℕ × Cast) × List ℕ) → AreBytes bytes → votes_in n bytes ≡ Ok x → Begins bytes (flat_map vote_spelling x.0) x.1 × (length x.0 ≡ n) × AllByRecursion FitsVote x.0
unfolding votes_in
votes_begin zero bytes x fits e =
    subst (λ (y : List (ℕ × Cast) × List ℕ). Begins bytes (flat_map vote_spelling y.0) y.1 × (length y.0 ≡ 0) × AllByRecursion FitsVote y.0) (ok_is ([], bytes) x e) (record { parts = refl; rest_fits = fits }, refl, tt)
votes_begin (suc n) bytes x fits e =
    let a = bind_ok (vote_at bytes) (λ first. votes_in n first.1 >>= λ others. Ok (first.0 ∷ others.0, others.1)) x e in
    let b = bind_ok (votes_in n a.0.1) (λ others. Ok (a.0.0 ∷ others.0, others.1)) x a.2 in
    let first = vote_begins bytes a.0 fits a.1 in
    let second = votes_begin n a.0.1 b.0 first.0.rest_fits b.1 in
    let both = Begins-then bytes (vote_spelling a.0.0) a.0.1 (flat_map vote_spelling b.0.0) b.0.1 first.0 second.0 in
    let made : List (ℕ × Cast) × List ℕ = (a.0.0 ∷ b.0.0, b.0.1) in
    subst (λ (y : List (ℕ × Cast) × List ℕ). Begins bytes (flat_map vote_spelling y.0) y.1 × (length y.0 ≡ suc n) × AllByRecursion FitsVote y.0) (ok_is made x b.2) (rw flat_map-cons both, ap suc second.1, (first.1, second.2))

pub votes_again : (rows : List (ℕ × Cast)) (rest : List ℕ) → AllByRecursion FitsVote rows → votes_in (length rows) (flat_map vote_spelling rows ++ rest) ≡ Ok (rows, rest)
unfolding votes_in
votes_again [] rest fits = refl
votes_again (row ∷ rows) rest fits =
    let regrouped : flat_map vote_spelling (row ∷ rows) ++ rest ≡ vote_spelling row ++ (flat_map vote_spelling rows ++ rest) = ap (λ (x : List ℕ). x ++ rest) (flat_map-cons vote_spelling row rows) ∙ append_assoc (vote_spelling row) (flat_map vote_spelling rows) rest in
    ap (votes_in (suc (length rows))) regrouped ∙ rw (vote_again row (flat_map vote_spelling rows ++ rest) fits.0, votes_again rows rest fits.1) refl
