-- How long spellings are.
use Rattle.std.proofs.Common.{◌≡◌, ℕ, ◌+◌, ◌*◌, ◌≤◌, List, [], ◌∷◌, ◌++◌, length, refl, sym, ap, subst, ◌∙◌, arith}
use Rattle.std.specs.Prelude.{map}
use Rattle.std.specs.List.{flat_map, AllByRecursion}
use Rattle.std.proofs.lemmas.List.{length-append}
use Rattle.std.proofs.lemmas.List.Concat.{flat_map-cons}
use Rattle.std.proofs.lemmas.List.Elements.{recursion_from_All}
use Rattle.ballots.specs.Limits.{IsValue, most_places, longest_value}
use Rattle.ballots.specs.declared.letters.Cast.{Cast}
use Rattle.ballots.specs.declared.letters.Letter.{Letter}
use Rattle.ballots.specs.declared.letters.Note.{Note}
use Rattle.ballots.specs.declared.letters.Note.TheVariants.{Prepare, Promise, Accept, Voted, Higher, Known}
use Rattle.letter_bytes.specs.Longest.{IsWithinLimits, ReportsAll, longest_letter, values_carried}
use Rattle.letter_bytes.specs.Spelling.{number, value_spelling, vote_spelling, fields_spelling, votes_reported}
use Rattle.letter_bytes.specs.Spelling.{spelling}

abbrev Rows : Type 0
Rows = List (ℕ × Cast)

number-length : (n : ℕ) → length (number n) ≡ 8
unfolding number
number-length n = refl

value-length : (v : List ℕ) → length (value_spelling v) ≡ 8 + length v
value-length v = omega (arith, length-append (number (length v)) v, number-length (length v))

vote-length : (row : ℕ × Cast) → length (vote_spelling row) ≡ 24 + length row.1.value
vote-length row =
    omega (
      arith,
      length-append (number row.0) (number row.1.ballot ++ value_spelling row.1.value),
      length-append (number row.1.ballot) (value_spelling row.1.value),
      number-length row.0,
      number-length row.1.ballot,
      value-length row.1.value,
    )

votes-at_most : (rows : Rows) → AllByRecursion IsValue (map (λ (row : ℕ × Cast). row.1.value) rows) → length (flat_map vote_spelling rows) ≤ length rows * 88
votes-at_most [] values = omega arith
votes-at_most (row ∷ rows) values =
    let parts : length (flat_map vote_spelling (row ∷ rows)) ≡ length (vote_spelling row) + length (flat_map vote_spelling rows) =
    ap (λ (x : List ℕ). length x) (flat_map-cons vote_spelling row rows) ∙ length-append (vote_spelling row) (flat_map vote_spelling rows) in
    omega (arith, parts, vote-length row, values.0, votes-at_most rows values.1)

votes-exactly : (rows : Rows) → AllByRecursion (λ (row : ℕ × Cast). length row.1.value ≡ longest_value) rows → length (flat_map vote_spelling rows) ≡ length rows * 88
votes-exactly [] values = refl
votes-exactly (row ∷ rows) values =
    let parts : length (flat_map vote_spelling (row ∷ rows)) ≡ length (vote_spelling row) + length (flat_map vote_spelling rows) =
    ap (λ (x : List ℕ). length x) (flat_map-cons vote_spelling row rows) ∙ length-append (vote_spelling row) (flat_map vote_spelling rows) in
    omega (arith, parts, vote-length row, values.0, votes-exactly rows values.1)

promise-length : (b p : ℕ) (rows : Rows) → length (fields_spelling (Promise b p rows)) ≡ 24
promise-length b p rows =
    omega (arith, length-append (number b) (number p ++ number (length rows)), length-append (number p) (number (length rows)), number-length b, number-length p, number-length (length rows))

valued-length : (b p : ℕ) (v : List ℕ) → length (number b ++ (number p ++ value_spelling v)) ≡ 24 + length v
valued-length b p v =
    omega (arith, length-append (number b) (number p ++ value_spelling v), length-append (number p) (value_spelling v), number-length b, number-length p, value-length v)

-- how many bytes follow the nodes
abbrev behind : Note → List ℕ
behind n = fields_spelling n ++ flat_map vote_spelling (votes_reported n)

alone : (fields : List ℕ) (n : ℕ) → length fields ≤ n → length (fields ++ []) ≤ n
alone fields n le = omega (arith, length-append fields [])

note-at_most : (n : Note) → length (votes_reported n) ≤ most_places → AllByRecursion IsValue (values_carried n) → length (behind n) ≤ 24 + most_places * 88
note-at_most (Prepare b p) votes values = alone (number b ++ number p) _ (omega (arith, length-append (number b) (number p), number-length b, number-length p))
note-at_most (Promise b p rows) votes values =
    omega (arith, length-append (fields_spelling (Promise b p rows)) (flat_map vote_spelling rows), promise-length b p rows, votes-at_most rows values, votes)
note-at_most (Accept b p v) votes values = alone (number b ++ (number p ++ value_spelling v)) _ (omega (arith, valued-length b p v, values.0))
note-at_most (Voted b p v) votes values = alone (number b ++ (number p ++ value_spelling v)) _ (omega (arith, valued-length b p v, values.0))
note-at_most (Higher b) votes values = alone (number b) _ (omega (arith, number-length b))
note-at_most (Known p v) votes values = alone (number p ++ value_spelling v) _ (omega (arith, length-append (number p) (value_spelling v), number-length p, value-length v, values.0))

pub letter-at_most : (l : Letter) → IsWithinLimits l → length (spelling l) ≤ longest_letter
letter-at_most l within = omega (arith, note-at_most l.note within.votes (recursion_from_All IsValue (values_carried l.note) within.values))

promise-longest : (b p : ℕ) (rows : Rows) → length rows ≡ most_places → AllByRecursion (λ (row : ℕ × Cast). length row.1.value ≡ longest_value) rows → length (behind (Promise b p rows)) ≡ 24 + most_places * 88
promise-longest b p rows all values =
    omega (arith, length-append (fields_spelling (Promise b p rows)) (flat_map vote_spelling rows), promise-length b p rows, votes-exactly rows values, all)

pub letter-longest : (l : Letter) → ReportsAll l → length (spelling l) ≡ longest_letter
letter-longest l reports =
    let promise = promise-longest reports.ballot reports.place reports.votes reports.all (recursion_from_All (λ (row : ℕ × Cast). length row.1.value ≡ longest_value) reports.votes reports.values) in
    omega (arith, subst (λ (n : Note). length (behind n) ≡ 24 + most_places * 88) (sym reports.note) promise)
