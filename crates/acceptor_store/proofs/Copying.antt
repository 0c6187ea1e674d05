-- Rows that are put one after another, by ascending place.
use Rattle.std.proofs.Common.{◌≡◌, ℕ, zero, suc, ◌+◌, ◌≤◌, List, [], ◌∷◌, take, Some, refl, sym, ap, subst, ◌∙◌, arith}
use Rattle.std.proofs.Common.{slice_get}
use Rattle.acceptor_store.proofs.Words.{AreRowsFrom, Cast, Content, HasMade, IsSound, Write, after_write, no_content}
use Rattle.acceptor_store.proofs.Words.{put, put_after}
use Rattle.acceptor.specs.Kept.{is_it}

-- a write that was made leaves the content after it
pub made_so : (old new : Content) (write : Write) → HasMade (is_it old) (is_it new) write → new ≡ after_write old (Some write)
made_so old new write has = (has old (∣ refl ∣₁, λ d is. is)).1 new refl

-- a vote at the same place and of the same value
pub put_same : (c : Content) {p q : ℕ} {v w : List ℕ} → p ≡ q → v ≡ w → (b : ℕ) → ◌≡◌ {A = Content} (record c { votes = put c.votes p (record { ballot = b; value = v }) }) (record c { votes = put c.votes q (record { ballot = b; value = w }) })
put_same c place value b = λ i. record c { votes = put c.votes (place i) (record { ballot = b; value = value i }) }

-- what stands further on stands at no earlier place
no_earlier : {V : Type 0} (q : ℕ) (rows : List (ℕ × V)) (i : ℕ) (row : ℕ × V) → AreRowsFrom q rows → slice_get rows i ≡ Some row → q ≤ row.0
no_earlier q [] i row sound there = absurd (cc there)
no_earlier q (x ∷ rows) zero row sound there = let same : row ≡ x = cc there in subst (λ y. q ≤ y.0) (sym same) sound.0
no_earlier q (x ∷ rows) (suc i) row sound there = omega (arith, sound.0, no_earlier (x.0 + 1) rows i row sound.2 there)

-- the next row goes behind those before it
put_next : {V : Type 0} (q : ℕ) (rows : List (ℕ × V)) (i : ℕ) (row : ℕ × V) → AreRowsFrom q rows → slice_get rows i ≡ Some row → put (take i rows) row.0 row.1 ≡ take (suc i) rows
put_next q [] i row sound there = absurd (cc there)
put_next q (x ∷ rows) zero row sound there = let same : row ≡ x = cc there in ap (λ y. y ∷ []) same
put_next q (x ∷ rows) (suc i) row sound there =
    put_after x.0 x.1 (take i rows) row.0 row.1 (omega (arith, no_earlier (x.0 + 1) rows i row sound.2 there)) ∙ ap (λ l. x ∷ l) (put_next (x.0 + 1) rows i row sound.2 there)

-- one more vote, and one more learned value
pub next_vote : (old mid new : Content) (votes : List (ℕ × Cast)) (i j : ℕ) (row : ℕ × Cast) → j ≡ suc i → slice_get votes i ≡ Some row → AreRowsFrom 1 votes
    → mid ≡ record old { votes = take i votes } → new ≡ record mid { votes = put mid.votes row.0 row.1 } → new ≡ record old { votes = take j votes }
next_vote old mid new votes i j row next there sound before after =
    after ∙ ap (λ (m : Content). record m { votes = put m.votes row.0 row.1 }) before
    ∙ ap (λ (v : List (ℕ × Cast)). record old { votes = v }) (put_next 1 votes i row sound there ∙ ap (λ k. take k votes) (sym next))

pub next_learned : (old mid new : Content) (learned : List (ℕ × List ℕ)) (i j : ℕ) (row : ℕ × List ℕ) → j ≡ suc i → slice_get learned i ≡ Some row → AreRowsFrom 1 learned
    → mid ≡ record old { learned = take i learned } → new ≡ record mid { learned = put mid.learned row.0 row.1 } → new ≡ record old { learned = take j learned }
next_learned old mid new learned i j row next there sound before after =
    after ∙ ap (λ (m : Content). record m { learned = put m.learned row.0 row.1 }) before
    ∙ ap (λ (v : List (ℕ × List ℕ)). record old { learned = v }) (put_next 1 learned i row sound there ∙ ap (λ k. take k learned) (sym next))

-- ballots, votes and learned values make up the content
pub made_up : (c first second third : Content) (tried row : ℕ) (votes : List (ℕ × Cast)) (learned : List (ℕ × List ℕ)) → first ≡ record no_content { tried = tried; row = row }
    → (AreRowsFrom 1 votes → first.votes ≡ [] → second ≡ record first { votes = votes }) → (AreRowsFrom 1 learned → second.learned ≡ [] → third ≡ record second { learned = learned })
    → IsSound c → tried ≡ c.tried → row ≡ c.row → votes ≡ c.votes → learned ≡ c.learned → third ≡ c
made_up c first second third tried row votes learned ballots casts values sound is_tried is_row are_votes are_learned =
    let with_votes : second ≡ record no_content { tried = tried; row = row; votes = votes } =
    casts (subst (AreRowsFrom 1) (sym are_votes) sound.0) (ap (λ (m : Content). m.votes) ballots) ∙ ap (λ (m : Content). record m { votes = votes }) ballots in
    let all : third ≡ record { tried = tried; row = row; votes = votes; learned = learned } =
    values (subst (AreRowsFrom 1) (sym are_learned) sound.1) (ap (λ (m : Content). m.learned) with_votes) ∙ ap (λ (m : Content). record m { learned = learned }) with_votes in
    all ∙ (λ i. record { tried = is_tried i; row = is_row i; votes = are_votes i; learned = are_learned i })
