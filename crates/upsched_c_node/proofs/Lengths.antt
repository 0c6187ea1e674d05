-- How long the spellings of letters and votes are.
use Rattle.std.proofs.Common.{◌≡◌, ◌∙◌, ℕ, ◌+◌, ◌<◌, ◌≤◌, ◌≢◌, List, [], ◌∷◌, ◌++◌, length, get_or, take, flat_map}
use Rattle.std.proofs.Common.{refl, ap}
use Rattle.std.proofs.Common.{arith}
use Rattle.std.proofs.lemmas.Grind.{flat_map-append}
use Rattle.std.proofs.lemmas.List.{length-append, take_more}
use Rattle.std.proofs.lemmas.List.Concat.{flat_map-cons}
use Rattle.std.proofs.lemmas.List.Folds.{length-flat_map-take}
use Rattle.ballots.specs.declared.letters.Cast.{Cast}
use Rattle.ballots.specs.declared.letters.Note.{Note}
use Rattle.ballots.specs.declared.letters.Note.TheVariants.{Prepare, Promise, Accept, Voted, Higher, Known}
use Rattle.letter_bytes.specs.Spelling.{fields_spelling, kind_byte, kind_of, number, value_spelling, vote_spelling}
use Rattle.upsched_c_node.specs.Letters.{value_of}

number-length : (n : ℕ) → length (number n) ≡ 8
unfolding number
number-length n = refl

value-length : (v : List ℕ) → length (value_spelling v) ≡ 8 + length v
value-length v = omega (arith, length-append (number (length v)) v, number-length (length v))

two-length : (a b : ℕ) → length (number a ++ number b) ≡ 16
two-length a b = omega (arith, length-append (number a) (number b), number-length a, number-length b)

three-length : (a b c : ℕ) → length (number a ++ (number b ++ number c)) ≡ 24
three-length a b c = omega (arith, length-append (number a) (number b ++ number c), number-length a, two-length b c)

one_valued-length : (a : ℕ) (v : List ℕ) → length (number a ++ value_spelling v) ≡ 16 + length v
one_valued-length a v = omega (arith, length-append (number a) (value_spelling v), number-length a, value-length v)

two_valued-length : (a b : ℕ) (v : List ℕ) → length (number a ++ (number b ++ value_spelling v)) ≡ 24 + length v
two_valued-length a b v = omega (arith, length-append (number a) (number b ++ value_spelling v), number-length a, one_valued-length b v)

-- of the fields of each kind of note
of_note : (note other : Note) → note ≡ other → length (fields_spelling note) ≡ length (fields_spelling other)
of_note note other is = ap (λ (n : Note). length (fields_spelling n)) is

pub of_prepare : (note : Note) (b p : ℕ) → note ≡ Prepare b p → length (fields_spelling note) ≡ 16
of_prepare note b p is = of_note note (Prepare b p) is ∙ two-length b p

pub of_promise : (note : Note) (b p : ℕ) (votes : List (ℕ × Cast)) → note ≡ Promise b p votes → length (fields_spelling note) ≡ 24
of_promise note b p votes is = of_note note (Promise b p votes) is ∙ three-length b p (length votes)

pub of_accept : (note : Note) (b p : ℕ) (v : List ℕ) → note ≡ Accept b p v → length (fields_spelling note) ≡ 24 + length v
of_accept note b p v is = of_note note (Accept b p v) is ∙ two_valued-length b p v

pub of_voted : (note : Note) (b p : ℕ) (v : List ℕ) → note ≡ Voted b p v → length (fields_spelling note) ≡ 24 + length v
of_voted note b p v is = of_note note (Voted b p v) is ∙ two_valued-length b p v

pub of_higher : (note : Note) (b : ℕ) → note ≡ Higher b → length (fields_spelling note) ≡ 8
of_higher note b is = of_note note (Higher b) is ∙ number-length b

pub of_known : (note : Note) (p : ℕ) (v : List ℕ) → note ≡ Known p v → length (fields_spelling note) ≡ 16 + length v
of_known note p v is = of_note note (Known p v) is ∙ one_valued-length p v

-- of the numbers of a kind's notes, and their values
pub of_highers : (note : Note) → 5 ≡ kind_byte (kind_of note)
    → length (fields_spelling note) ≡ 8 + length (value_of note)
of_highers (Higher b) is = number-length b
of_highers note is = absurd (omega (arith, is))

pub of_prepares : (note : Note) → 1 ≡ kind_byte (kind_of note)
    → length (fields_spelling note) ≡ 16 + length (value_of note)
of_prepares (Prepare b p) is = two-length b p
of_prepares note is = absurd (omega (arith, is))

pub of_knowns : (note : Note) → 6 ≡ kind_byte (kind_of note)
    → length (fields_spelling note) ≡ 16 + length (value_of note)
of_knowns (Known p v) is = one_valued-length p v
of_knowns note is = absurd (omega (arith, is))

pub of_others : (note : Note) (kind : ℕ) → kind ≡ kind_byte (kind_of note) → kind ≢ 5 → kind ≢ 1 → kind ≢ 6
    → length (fields_spelling note) ≡ 24 + length (value_of note)
of_others (Promise b p votes) kind is no_higher no_prepare no_known = three-length b p (length votes)
of_others (Accept b p v) kind is no_higher no_prepare no_known = two_valued-length b p v
of_others (Voted b p v) kind is no_higher no_prepare no_known = two_valued-length b p v
of_others (Prepare b p) kind is no_higher no_prepare no_known = absurd (no_prepare is)
of_others (Higher b) kind is no_higher no_prepare no_known = absurd (no_higher is)
of_others (Known p v) kind is no_higher no_prepare no_known = absurd (no_known is)

-- of a vote
pub of_vote : (row : ℕ × Cast) → length (vote_spelling row) ≡ 24 + length row.1.value
of_vote row = omega (arith, length-append (number row.0) (number row.1.ballot ++ value_spelling row.1.value), number-length row.0, one_valued-length row.1.ballot row.1.value)

-- votes have no fewer bytes than the first ones and the next
pub at_least : (rows : List (ℕ × Cast)) (i : ℕ) (d : ℕ × Cast) → i < length rows → length (flat_map vote_spelling (take i rows)) + length (vote_spelling (get_or rows i d)) ≤ length (flat_map vote_spelling rows)
at_least rows i d within = length-flat_map-take vote_spelling rows i d within

-- and with the next one they have as many more
pub one_more : (rows : List (ℕ × Cast)) (i : ℕ) (d : ℕ × Cast) → i < length rows → length (flat_map vote_spelling (take (i + 1) rows)) ≡ length (flat_map vote_spelling (take i rows)) + length (vote_spelling (get_or rows i d))
one_more rows i d within =
    let x : ℕ × Cast = get_or rows i d in
    let parts : length (flat_map vote_spelling (take (i + 1) rows)) ≡ length (flat_map vote_spelling (take i rows) ++ flat_map vote_spelling (x ∷ [])) =
    ap (λ (xs : List (ℕ × Cast)). length (flat_map vote_spelling xs)) (take_more rows i d within) ∙ ap (λ (bs : List ℕ). length bs) (flat_map-append vote_spelling (take i rows) (x ∷ [])) in
    let one : length (flat_map vote_spelling (x ∷ [])) ≡ length (vote_spelling x ++ flat_map vote_spelling []) = ap (λ (bs : List ℕ). length bs) (flat_map-cons vote_spelling x []) in
    let none : length (flat_map vote_spelling []) ≡ 0 = refl in
    omega (
      arith,
      parts,
      one,
      none,
      length-append (flat_map vote_spelling (take i rows)) (flat_map vote_spelling (x ∷ [])),
      length-append (vote_spelling x) (flat_map vote_spelling []),
    )
