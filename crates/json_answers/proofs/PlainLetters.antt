-- What is said of letters as JSON has no fraction, and hardly nests.
use Rattle.std.proofs.Common.{◌≡◌, ℕ, ◌+◌, ◌≤◌, false, List, [], ◌∷◌, codes, map, refl, arith}
use Rattle.std.proofs.Math.Nat.{max-le}
use Rattle.hex.specs.Hex.{encode_lower}
use Rattle.ballots.specs.declared.letters.Cast.{Cast}
use Rattle.ballots.specs.declared.letters.Letter.{Letter}
use Rattle.ballots.specs.declared.letters.Note.{Note}
use Rattle.ballots.specs.declared.letters.Note.TheVariants.{Prepare, Promise, Accept, Voted, Higher, Known}
use Rattle.serde_json.specs.Data.{Data, array, object, Members, no_members, put, depth, items_depth}
use Rattle.serde_json.specs.View.{items_of}
use Rattle.serde_json.specs.Written.{items_have_float}
use Rattle.json_outputs.proofs.Callers.{Small, AreSmall, both, none_small, field_small, with_number_small}
use Rattle.json_outputs.proofs.Callers.{with_text_small, with_time_small, object_small}
use Rattle.json_outputs.specs.Fields.{with_text}
use Rattle.json_answers.specs.Letters.{with_ballot, with_value, with_cast, vote_data, with_votes, with_note}
use Rattle.json_answers.specs.Letters.{letter_data, letters_from, with_letters, words_of}

value_small : (k : ℕ) (v : List ℕ) (ms : Members) → AreSmall k ms → AreSmall k (with_value v ms)
value_small k v ms xs = with_text_small k (codes "command") (words_of v) _ (with_text_small k (codes "value") (encode_lower v) ms xs)

cast_small : (k b p : ℕ) (v : List ℕ) (ms : Members) → AreSmall k ms → AreSmall k (with_cast b p v ms)
cast_small k b p v ms xs = value_small k v _ (with_number_small k (codes "place") p _ (with_time_small k (codes "ballot") b ms xs))

vote_small : (row : ℕ × Cast) → Small 1 (vote_data row)
vote_small row = object_small 0 _ (cast_small 0 row.1.ballot row.0 row.1.value no_members (none_small 0))

votes_whole : (rows : List (ℕ × Cast)) → items_have_float (items_of (map vote_data rows)) ≡ false
votes_whole [] = refl
votes_whole (row ∷ rows) = both _ _ (vote_small row).whole (votes_whole rows)

votes_shallow : (rows : List (ℕ × Cast)) → items_depth (items_of (map vote_data rows)) ≤ 1
votes_shallow [] = omega arith
votes_shallow (row ∷ rows) = max-le (vote_small row).shallow (votes_shallow rows)

votes_small : (rows : List (ℕ × Cast)) → Small 2 (array (items_of (map vote_data rows)))
votes_small rows = record { whole = votes_whole rows; shallow = let below = votes_shallow rows in omega arith }

kind_small : (kind : List ℕ) (ms : Members) → AreSmall 2 ms → AreSmall 2 (with_text (codes "kind") kind ms)
kind_small kind ms xs = with_text_small 2 (codes "kind") kind ms xs

note_small : (note : Note) (ms : Members) → AreSmall 2 ms → AreSmall 2 (with_note note ms)
note_small (Prepare b p) ms xs =
    with_number_small 2 (codes "place") p _ (with_time_small 2 (codes "ballot") b _ (kind_small (codes "prepare") ms xs))
note_small (Promise b p votes) ms xs =
    field_small 2 (codes "votes") _ _ (votes_small votes)
    (with_number_small 2 (codes "place") p _ (with_time_small 2 (codes "ballot") b _ (kind_small (codes "promise") ms xs)))
note_small (Accept b p v) ms xs = cast_small 2 b p v _ (kind_small (codes "accept") ms xs)
note_small (Voted b p v) ms xs = cast_small 2 b p v _ (kind_small (codes "voted") ms xs)
note_small (Higher b) ms xs = with_time_small 2 (codes "ballot") b _ (kind_small (codes "higher") ms xs)
note_small (Known p v) ms xs = value_small 2 v _ (with_number_small 2 (codes "place") p _ (kind_small (codes "known") ms xs))

letter_small : (n : ℕ) (l : Letter) → Small 3 (letter_data n l)
letter_small n l =
    object_small 2 _ (note_small l.note _ (with_number_small 2 (codes "to") l.to _ (with_number_small 2 (codes "from") l.from _
    (with_number_small 2 (codes "letter") n no_members (none_small 2)))))

letters_whole : (n : ℕ) (ls : List Letter) → items_have_float (items_of (letters_from n ls)) ≡ false
letters_whole n [] = refl
letters_whole n (l ∷ ls) = both _ _ (letter_small n l).whole (letters_whole (n + 1) ls)

letters_shallow : (n : ℕ) (ls : List Letter) → items_depth (items_of (letters_from n ls)) ≤ 3
letters_shallow n [] = omega arith
letters_shallow n (l ∷ ls) = max-le (letter_small n l).shallow (letters_shallow (n + 1) ls)

-- letters among other fields
pub letters_small : (key : List ℕ) (n : ℕ) (ls : List Letter) (ms : Members) → AreSmall 4 ms → AreSmall 4 (with_letters key n ls ms)
letters_small key n ls ms xs =
    field_small 4 key (array (items_of (letters_from n ls))) ms
    (record { whole = letters_whole n ls; shallow = let below = letters_shallow n ls in omega arith }) xs
