-- How long the line of a promise is behind a number: with one more vote it still is within the log's limits, and that
-- vote takes more digits than the number.
use Rattle.std.proofs.Common.{◌≡◌, ◌∙◌, ℕ, ◌+◌, ◌<◌, ◌≤◌, ◌^◌, List, [], ◌∷◌, ◌++◌, length, length-append, refl, ap}
use Rattle.std.proofs.Common.{arith}
use Rattle.std.specs.Prelude.{codes, decimal, map}
use Rattle.std.specs.List.{flat_map}
use Rattle.std.proofs.lemmas.Fmt.{length-decimal-le}
use Rattle.std.proofs.lemmas.List.Concat.{flat_map-cons}
use Rattle.std.proofs.lemmas.List.Elements.{All-cons}
use Rattle.hex.specs.Hex.{encode_lower, lower_digits}
use Rattle.hex.proofs.HexLemmas.{length-encode_with}
use Rattle.ballots.specs.Limits.{IsValue, most_places}
use Rattle.ballots.specs.declared.letters.Cast.{Cast}
use Rattle.ballots.specs.declared.letters.Letter.{Letter}
use Rattle.ballots.specs.declared.letters.Note.{Note}
use Rattle.ballots.specs.declared.letters.Note.TheVariants.{Promise}
use Rattle.hosts.specs.declared.host.TheConstants.{MOST_EPOCH_PLACES}
use Rattle.letter_bytes.specs.Longest.{longest_letter}
use Rattle.letter_bytes.specs.Spelling.{fields_spelling, number, spelling, vote_spelling, votes_reported}
use Rattle.letter_bytes.proofs.Callers.{letter-at_most}
use Rattle.node_lines.specs.Lines.{letter_word, longest_line}
use Rattle.host_service.specs.Asking.{join_word}
use Rattle.host_service.specs.Longest.{IsPromiseWithin}
use Rattle.host_service.specs.Numbers.{number_text}
use Rattle.host_service.specs.declared.number.EpochNumber.{EpochNumber}
use Rattle.host_service.specs.declared.reply.TheConstants.{LONGEST_STATE}

abbrev Rows : Type 0
Rows = List (ℕ × Cast)

-- a vote for a value without bytes
abbrev empty_vote : ℕ × Cast
empty_vote = (0, record { ballot = 0; value = [] })

eight : (n : ℕ) → length (number n) ≡ 8
unfolding number
eight n = refl

empty_length : length (vote_spelling empty_vote) ≡ 24
unfolding number
empty_length = refl

-- how many bytes follow the nodes of a letter
abbrev behind : Note → List ℕ
behind n = fields_spelling n ++ flat_map vote_spelling (votes_reported n)

promise_length : (b p : ℕ) (rows : Rows) → length (behind (Promise b p rows)) ≡ 24 + length (flat_map vote_spelling rows)
promise_length b p rows =
    omega (
      arith,
      length-append (fields_spelling (Promise b p rows)) (flat_map vote_spelling rows),
      length-append (number b) (number p ++ number (length rows)),
      length-append (number p) (number (length rows)),
      eight b,
      eight p,
      eight (length rows),
    )

one_more : (b p : ℕ) (rows : Rows) → length (behind (Promise b p (empty_vote ∷ rows))) ≡ length (behind (Promise b p rows)) + 24
one_more b p rows =
    let parts : length (flat_map vote_spelling (empty_vote ∷ rows)) ≡ length (vote_spelling empty_vote) + length (flat_map vote_spelling rows) =
    ap (λ (x : List ℕ). length x) (flat_map-cons vote_spelling empty_vote rows) ∙ length-append (vote_spelling empty_vote) (flat_map vote_spelling rows) in
    omega (arith, parts, empty_length, promise_length b p rows, promise_length b p (empty_vote ∷ rows))

-- a promise within an epoch leaves room for one more vote
room : (places : ℕ) (l : Letter) → places < most_places → IsPromiseWithin places l → length (spelling l) + 24 ≤ longest_letter
room places l few within =
    let b = within.ballot in
    let p = within.place in
    let more : Letter = record l { note = Promise b p (empty_vote ∷ within.votes) } in
    let most : length (spelling more) ≤ longest_letter =
    letter-at_most more (record {
      votes = omega (arith, within.few, few);
      values = All-cons IsValue [] (map (λ (row : ℕ × Cast). row.1.value) within.votes) (omega arith) within.values;
    }) in
    let same : length (behind l.note) ≡ length (behind (Promise b p within.votes)) = ap (λ (n : Note). length (behind n)) within.note in
    omega (arith, most, same, one_more b p within.votes)

number_length : (n : EpochNumber) → n.epoch < 2 ^ 64 → n.places ≤ MOST_EPOCH_PLACES → length (number_text n) ≤ 28
number_length n epoch places =
    omega (
      arith,
      length-append (decimal n.epoch) (codes "/" ++ (decimal n.places ++ codes " ")),
      length-append (decimal n.places) (codes " "),
      length-decimal-le 20 n.epoch (omega arith) (omega (arith, epoch)) epoch,
      length-decimal-le 6 n.places (omega arith) (omega (arith, places)) (omega (arith, places)),
    )

pub fits_behind : (n : EpochNumber) (l : Letter) → n.epoch < 2 ^ 64 → n.places ≤ MOST_EPOCH_PLACES → IsPromiseWithin n.places l → length (number_text n ++ (letter_word ++ encode_lower (spelling l))) ≤ longest_line
fits_behind n l epoch places within =
    omega (
      arith,
      length-append (number_text n) (letter_word ++ encode_lower (spelling l)),
      length-append letter_word (encode_lower (spelling l)),
      length-encode_with lower_digits (spelling l),
      number_length n epoch places,
      room n.places l (omega (arith, places)) within,
    )

-- the line by which a host joins has two digits for each byte of the state
pub state_fits : (bytes : List ℕ) → length bytes ≤ LONGEST_STATE → length (join_word ++ encode_lower bytes) ≤ longest_line
state_fits bytes few = omega (arith, few, length-append join_word (encode_lower bytes), length-encode_with lower_digits bytes)
