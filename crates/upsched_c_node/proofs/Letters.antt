-- The fields of a letter hold what they may.
use Rattle.std.proofs.Common.{◌≡◌, inl, inr, ℕ, zero, suc, ◌<◌, List, [], ◌∷◌, length, map, Option, Some, refl, sym, ap}
use Rattle.std.proofs.Common.{subst, ◌∙◌, arith, slice_index_or}
use Rattle.std.specs.Prelude.{IsSome}
use Rattle.std.proofs.lemmas.List.{length-map}
use Rattle.ballots.specs.Ballots.{IsBallot}
use Rattle.ballots.specs.declared.letters.Note.{Note}
use Rattle.ballots.specs.declared.letters.Note.TheVariants.{Prepare, Promise, Accept, Voted, Higher, Known}
use Rattle.letter_bytes.specs.Spelling.{FitsFields, votes_reported}
use Rattle.upsched_c_node.specs.declared.letter_fields.LetterFields.{LetterFields}
use Rattle.upsched_c_node.specs.declared.letter_fields.VoteFields.{VoteFields}
use Rattle.upsched_c_node.specs.Letters.{Fits, FitsKind, HasLetter, IsNote, vote_of}

-- so does each vote
all_some : {X Y : Type 0} (f : X → Option Y) (xs : List X) (ys : List Y) → map f xs ≡ map Some ys → (k : ℕ) (d : X) → k < length xs → IsSome (f (slice_index_or xs k d))
all_some f [] ys same k d within = absurd (omega (arith, within))
all_some f (x ∷ xs) [] same k d within = absurd (cc (same))
all_some f (x ∷ xs) (y ∷ ys) same zero d within = let one : f x ≡ Some y = cc (same) in subst IsSome (sym one) refl
all_some f (x ∷ xs) (y ∷ ys) same (suc k) d within = let others : map f xs ≡ map Some ys = cc (same) in all_some f xs ys others k d (omega (arith, within))

fits_kind : (f : LetterFields) (note : Note) (n : ℕ) → FitsFields note → IsNote f note → n ≡ length (votes_reported note) → FitsKind f n
fits_kind f (Prepare b p) n fits is same = inl (is.kind, subst IsBallot (sym is.ballot) fits.0, is.len, same)
fits_kind f (Promise b p votes) n fits is same = inr (inl (is.kind, subst IsBallot (sym is.ballot) fits.0, is.len))
fits_kind f (Accept b p v) n fits is same = inr (inr (inl (inl is.kind, subst IsBallot (sym is.ballot) fits.0, same)))
fits_kind f (Voted b p v) n fits is same = inr (inr (inl (inr is.kind, subst IsBallot (sym is.ballot) fits.0, same)))
fits_kind f (Higher b) n fits is same = inr (inr (inr (inl (is.kind, subst IsBallot (sym is.ballot) fits, is.place, is.len, same))))
fits_kind f (Known p v) n fits is same = inr (inr (inr (inr (is.kind, is.ballot, same))))

pub all_fit : (f : LetterFields) (votes : List VoteFields) → HasLetter f votes → Fits f votes
all_fit f votes has =
    let l = has.0 in
    let fits = has.1 in
    let are = has.2 in
    let many : length votes ≡ length (votes_reported l.note) =
    sym (length-map votes vote_of) ∙ ap (λ xs. length xs) are.reported ∙ length-map (votes_reported l.note) Some in
    record {
      from = subst (λ n. n < 5) (sym are.letter.from) fits.from;
      to = subst (λ n. n < 5) (sym are.letter.to) fits.to;
      value = are.letter.note.fits;
      kind = fits_kind f l.note (length votes) fits.fields are.letter.note many;
      each = all_some vote_of votes (votes_reported l.note) are.reported;
    }
