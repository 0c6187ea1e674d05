-- Letters as text, each value with the command that it spells behind it.
use Rattle.std.specs.Prelude.{ℕ, List, [], ◌++◌, codes}
use Rattle.std.specs.List.{flat_map}
use Rattle.ballots.specs.declared.letters.Cast.{Cast}
use Rattle.ballots.specs.declared.letters.Letter.{Letter}
use Rattle.ballots.specs.declared.letters.Note.{Note}
use Rattle.ballots.specs.declared.letters.Note.TheVariants.{Prepare, Promise, Accept, Voted, Higher, Known}
use Rattle.printed_answers.specs.Letters.{letter_text, vote_text}
use Rattle.command_words.specs.Commands.{value_text}

-- the command that a value spells, behind its bytes
abbrev pub spelled_behind : List ℕ → List ℕ
spelled_behind value = codes " (" ++ (value_text value ++ codes ")")

-- a vote that a promise reports
abbrev pub named_vote : ℕ × Cast → List ℕ
named_vote row = vote_text row ++ spelled_behind row.1.value

-- a letter that says this
abbrev pub named_note : Letter → Note → List ℕ
named_note l (Prepare ballot place) = letter_text l
named_note l (Promise ballot place votes) = letter_text (record l { note = Promise ballot place [] }) ++ flat_map named_vote votes
named_note l (Accept ballot place value) = letter_text l ++ spelled_behind value
named_note l (Voted ballot place value) = letter_text l ++ spelled_behind value
named_note l (Higher ballot) = letter_text l
named_note l (Known place value) = letter_text l ++ spelled_behind value

-- a letter: who sends it to whom, and what it says, with the command of each value
abbrev pub named_letter_text : Letter → List ℕ
named_letter_text l = named_note l l.note
