-- The letter of fields and votes, and how many bytes it has.
use Rattle.std.proofs.Common.{◌≡◌, ◌∙◌, inl, inr, ℕ, zero, suc, ◌+◌, ◌<◌, ◌≤◌, ◌^◌, ◌&&◌, Bool, true, false}
use Rattle.std.proofs.Common.{if◌then◌else◌, nat_le, List, [], ◌∷◌}
use Rattle.std.proofs.Common.{flat_map, length, map, take, All, IsSome, Option, Some, None, refl, sym, ap, subst, arith}
use Rattle.std.proofs.Common.{slice_index_or, leb-true}
use Rattle.std.proofs.lemmas.Bool.Decides.{nat_tests}
use Rattle.std.proofs.lemmas.List.{length-map, nil_from_length}
use Rattle.std.proofs.lemmas.List.Elements.{All-head, All-more, All-tail}
use Rattle.ballots.specs.Ballots.{IsBallot}
use Rattle.ballots.specs.Limits.{longest_value}
use Rattle.ballots.specs.declared.letters.Cast.{Cast}
use Rattle.letter_bytes.specs.Reading.{is_ballot}
use Rattle.ballots.specs.declared.letters.Letter.{Letter}
use Rattle.ballots.specs.declared.letters.Note.{Note}
use Rattle.ballots.specs.declared.letters.Note.TheVariants.{Prepare, Promise, Accept, Voted, Higher, Known}
use Rattle.letter_bytes.specs.Spelling.{FitsFields, FitsFront, FitsLetter, FitsVote, kind_byte, kind_of, vote_spelling}
use Rattle.letter_bytes.specs.Spelling.{votes_reported}
use Rattle.upsched_c_node.specs.Letters.{AreFields, AreOf, Fits, FitsKind, IsNote, ballot_of, place_of, value_of}
use Rattle.upsched_c_node.specs.Letters.{vote_of}
use Rattle.upsched_c_node.specs.declared.letter_fields.LetterFields.{LetterFields}
use Rattle.upsched_c_node.specs.declared.letter_fields.VoteFields.{VoteFields}
use Rattle.upsched_c_node.proofs.Lengths.{of_vote, one_more}

-- what stands behind a test that holds is what is there
if_some : {X : Type 0} (b : Bool) (x y : X) → (if b then Some x else None) ≡ Some y → (b ≡ true) × (x ≡ y)
if_some true x y is = (refl, cc)
if_some false x y is = absurd (cc)

both : (a b : Bool) → (a && b) ≡ true → (a ≡ true) × (b ≡ true)
both true b is = (refl, is)
both false b is = absurd (cc)

is_one : (b : ℕ) → is_ballot b ≡ true → IsBallot b
is_one b is = grind (arith, nat_tests)

-- the vote of these fields, where they have one
abbrev vote_at : VoteFields → ℕ × Cast
vote_at f = (f.place, record { ballot = f.ballot; value = take f.value_len f.value })

told_by : (f : VoteFields) (row : ℕ × Cast) → vote_of f ≡ Some row
    → (f.value_len ≤ longest_value) × IsBallot f.ballot × (row ≡ vote_at f)
told_by f row is =
    let told = if_some (nat_le f.value_len longest_value && is_ballot f.ballot) (vote_at f) row is in
    let tests = both (nat_le f.value_len longest_value) (is_ballot f.ballot) told.0 in
    (leb-true f.value_len longest_value tests.0, is_one f.ballot tests.1, sym told.1)

pub vote_bytes : (f : VoteFields) (row : ℕ × Cast) → vote_of f ≡ Some row
    → length (vote_spelling row) ≡ 24 + length (take f.value_len f.value)
vote_bytes f row is = of_vote row ∙ ap (λ (r : ℕ × Cast). 24 + length r.1.value) (told_by f row is).2

-- what each vote is, by its place
told_at : {X Y : Type 0} (f : X → Option Y) (xs : List X) (ys : List Y) → map f xs ≡ map Some ys
    → (i : ℕ) (d : X) (e : Y) → i < length xs
    → (i < length ys) × (f (slice_index_or xs i d) ≡ Some (slice_index_or ys i e))
told_at f [] ys same i d e within = absurd (omega (arith, within))
told_at f (x ∷ xs) [] same i d e within = absurd (cc (same))
told_at f (x ∷ xs) (y ∷ ys) same zero d e within = (omega arith, cc (same))
told_at f (x ∷ xs) (y ∷ ys) same (suc i) d e within =
    let others : map f xs ≡ map Some ys = cc (same) in
    let there = told_at f xs ys others i d e (omega (arith, within)) in
    (omega (arith, there.0), there.1)

-- so many votes have these bytes, whatever they are
abbrev pub AreSoFar : List VoteFields → ℕ → ℕ → Type 0
AreSoFar votes i sum =
    (rows : List (ℕ × Cast)) → map vote_of votes ≡ map Some rows
    → (sum ≡ length (flat_map vote_spelling (take i rows))) × All FitsVote (take i rows)

pub goes_on : (votes : List VoteFields) (i sum more : ℕ) (d : VoteFields) → i < length votes → AreSoFar votes i sum
    → ((row : ℕ × Cast) → vote_of (slice_index_or votes i d) ≡ Some row → more ≡ length (vote_spelling row))
    → ((row : ℕ × Cast) → vote_of (slice_index_or votes i d) ≡ Some row → FitsVote row)
    → AreSoFar votes (i + 1) (sum + more)
goes_on votes i sum more d within so_far bytes fits rows same =
    let e : ℕ × Cast = (0, record { ballot = 0; value = [] }) in
    let there = told_at vote_of votes rows same i d e within in
    let before = so_far rows same in
    let row : ℕ × Cast = slice_index_or rows i e in (
      omega (arith, before.0, bytes row there.1, one_more rows i e there.0),
      All-more FitsVote rows i e there.0 before.1 (fits row there.1),
    )

some_is : {X : Type 0} (o : Option X) → IsSome o → (x : X) × (o ≡ Some x)
some_is (Some x) is = (x, refl)
some_is None is = absurd (cc (is))

-- there are such votes
votes_told : (votes : List VoteFields) → All (λ v. IsSome (vote_of v)) votes
    → (rows : List (ℕ × Cast)) × (map vote_of votes ≡ map Some rows)
votes_told [] each = ([], refl)
votes_told (f ∷ votes) each =
    let row = some_is (vote_of f) (All-head (λ v. IsSome (vote_of v)) f votes each) in
    let others = votes_told votes (All-tail (λ v. IsSome (vote_of v)) f votes each) in
    (row.0 ∷ others.0, cc (row.1, others.1))

-- and such a note
module _ (f : LetterFields) (rows : List (ℕ × Cast)) (place : f.place < 2 ^ 64) (many : length rows < 2 ^ 64)
    (fits : f.value_len ≤ longest_value) (value : f.value_len ≡ length (take f.value_len f.value)) where
  abbrev IsSuch : Note → Type 0
  IsSuch note = FitsFields note × IsNote f note × (votes_reported note ≡ rows)

  no_votes : length rows ≡ 0 → [] ≡ rows
  no_votes none = sym (nil_from_length rows none)

  no_value : f.value_len ≡ 0 → take f.value_len f.value ≡ []
  no_value none = nil_from_length (take f.value_len f.value) (omega (arith, value, none))

  counted : length (take f.value_len f.value) < 2 ^ 64
  counted = omega (arith, value, fits)

  such : (note : Note) → FitsFields note → f.kind ≡ kind_byte (kind_of note) → f.ballot ≡ ballot_of note
      → f.place ≡ place_of note → take f.value_len f.value ≡ value_of note → votes_reported note ≡ rows
      → (x : Note) × IsSuch x
  such note has kind ballot at is reported =
      let len = value ∙ ap (λ (v : List ℕ). length v) is in
      let are : IsNote f note = record { kind = kind; ballot = ballot; place = at; fits = fits; len = len; value = is } in
      (note, (has, are, reported))

  note_told : FitsKind f (length rows) → (note : Note) × IsSuch note
  note_told (inl (kind, ballot, len, none)) =
      such (Prepare f.ballot f.place) (ballot, place) kind refl refl (no_value len) (no_votes none)
  note_told (inr (inl (kind, ballot, len))) =
      such (Promise f.ballot f.place rows) (ballot, place, many) kind refl refl (no_value len) refl
  note_told (inr (inr (inl (inl kind, ballot, none)))) =
      such (Accept f.ballot f.place (take f.value_len f.value)) (ballot, place, counted) kind refl refl refl (no_votes none)
  note_told (inr (inr (inl (inr kind, ballot, none)))) =
      such (Voted f.ballot f.place (take f.value_len f.value)) (ballot, place, counted) kind refl refl refl (no_votes none)
  note_told (inr (inr (inr (inl (kind, ballot, none, len, few))))) =
      such (Higher f.ballot) ballot kind refl none (no_value len) (no_votes few)
  note_told (inr (inr (inr (inr (kind, ballot, none))))) =
      such (Known f.place (take f.value_len f.value)) (place, counted) kind ballot refl refl (no_votes none)

-- and such a letter
pub letter_told : (f : LetterFields) (votes : List VoteFields) → Fits f votes
    → f.place < 2 ^ 64 → length votes < 2 ^ 64 → f.value_len ≡ length (take f.value_len f.value)
    → ((rows : List (ℕ × Cast)) → map vote_of votes ≡ map Some rows → All FitsVote rows)
    → (l : Letter) × FitsLetter l × AreOf f votes l
letter_told f votes fits place many value votes_fit =
    let told = votes_told votes fits.each in
    let rows = told.0 in
    let same : length votes ≡ length rows =
    sym (length-map votes vote_of) ∙ ap (λ xs. length xs) told.1 ∙ length-map rows Some in
    let note = note_told f rows place (omega (arith, same)) fits.value value (subst (FitsKind f) same fits.kind) in
    let l : Letter = record { from = f.from; to = f.to; note = note.0 } in
    let front : FitsFront l = record { from = fits.from; to = fits.to; fields = note.1.0 } in
    let letter : AreFields f l = record { from = refl; to = refl; note = note.1.1 } in (
      l,
      record { front = front; votes = subst (All FitsVote) (sym note.1.2) (votes_fit rows told.1) },
      record { letter = letter; reported = told.1 ∙ ap (λ (xs : List (ℕ × Cast)). map Some xs) (sym note.1.2) },
    )
