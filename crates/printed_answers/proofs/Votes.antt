-- The votes of a promise, one after another.
use Rattle.std.proofs.Common.{◌≡◌, ℕ, ◌+◌, ◌<◌, List, [], ◌∷◌, ◌++◌, length, get_or, take, ap, ◌∙◌, sym, append-nil}
use Rattle.std.proofs.lemmas.List.{take_more}
use Rattle.std.proofs.lemmas.Grind.{flat_map-append}
use Rattle.ballots.specs.declared.letters.Cast.{Cast}
use Rattle.printed_answers.specs.Letters.{vote_text, votes_text}

-- with one vote more
pub one_vote_more : (votes : List (ℕ × Cast)) (i : ℕ) (row : ℕ × Cast) (before added after : List ℕ) → i < length votes → row ≡ get_or votes i row
    → before ≡ votes_text (take i votes) → added ≡ vote_text row → after ≡ before ++ added → after ≡ votes_text (take (i + 1) votes)
one_vote_more votes i row before added after below is_row is_before is_added grown =
    let here : votes_text (get_or votes i row ∷ []) ≡ vote_text row = append-nil (vote_text (get_or votes i row)) ∙ ap vote_text (sym is_row) in
    let whole : votes_text (take (i + 1) votes) ≡ votes_text (take i votes) ++ vote_text row =
    ap votes_text (take_more votes i row below) ∙ flat_map-append vote_text (take i votes) (get_or votes i row ∷ []) ∙ ap (λ t. votes_text (take i votes) ++ t) here in
    grown ∙ ap (λ t. t ++ added) is_before ∙ ap (λ t. votes_text (take i votes) ++ t) is_added ∙ sym whole
