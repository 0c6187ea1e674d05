-- The lines that a run of a script prints.
use Rattle.std.specs.Prelude.{ℕ, ◌+◌, ◌-◌, Bool, true, false, List, [], ◌∷◌, ◌++◌, Option, Some, None, codes, decimal}
use Rattle.std.specs.Prelude.{length}
use Rattle.std.specs.List.{flat_map}
use Rattle.ballots.specs.declared.letters.Letter.{Letter}
use Rattle.seats.specs.declared.answer.Answer.{Answer}
use Rattle.seats.specs.declared.answer.ReleasedOutput.{ReleasedOutput}
use Rattle.printed_outputs.specs.Texts.{output_text}
use Rattle.printed_answers.specs.Texts.{answer_text}
use Rattle.printed_answers.specs.Letters.{letter_text}
use Rattle.command_words.specs.Letters.{named_letter_text}
use Rattle.watched_runs.specs.declared.post.Post.{Post}
use Rattle.watched_runs.specs.declared.sight.Sight.{Sight}
use Rattle.watched_runs.specs.declared.mark.Stage.{Stage}
use Rattle.watched_runs.specs.Marks.{between}
use Rattle.watched_runs.specs.Rows.{Row, Seen}
use Rattle.watched_runs.specs.Texts.{post_text}
use Rattle.upsched_run.specs.declared.trace.Trace.{Trace}
use Rattle.upsched_run.specs.declared.trace.Trace.TheVariants.{Off, Letters, Named}

-- the line of an answer with its event's number, and of a letter that came with others
abbrev pub answer_line : ℕ → Answer → List ℕ
answer_line n a = decimal n ++ (codes " " ++ (answer_text a ++ 10 ∷ []))

abbrev pub letter_answer_line : ℕ → Answer → List ℕ
letter_answer_line l a = codes "letter " ++ (decimal l ++ (codes " " ++ (answer_text a ++ 10 ∷ [])))

-- the line of an output that was released, and the lines of several
abbrev pub place_line : ReleasedOutput → List ℕ
place_line x = codes "place " ++ (decimal x.numbered.place ++ (codes " " ++ (output_text x.numbered.output ++ 10 ∷ [])))

abbrev pub place_lines : List ReleasedOutput → List ℕ
place_lines xs = flat_map place_line xs

-- a letter, with the commands that its values spell where they are named
abbrev pub letter_words : Bool → Letter → List ℕ
letter_words false l = letter_text l
letter_words true l = named_letter_text l

-- the line of the letter of this number, behind a word for what became of it, and the lines of letters, numbered from n
-- on
abbrev pub letter_line : Bool → List ℕ → ℕ → Letter → List ℕ
letter_line named word n l = word ++ (codes " " ++ (decimal n ++ (codes " " ++ (letter_words named l ++ 10 ∷ []))))

abbrev pub letter_lines : Bool → List ℕ → ℕ → List Letter → List ℕ
letter_lines named word n [] = []
letter_lines named word n (l ∷ ls) = letter_line named word n l ++ letter_lines named word (n + 1) ls

abbrev pub numbered_lines : Bool → List ℕ → ℕ × List Letter → List ℕ
numbered_lines named word numbered = letter_lines named word numbered.0 numbered.1

-- the lines of what is seen of a node: its post, where that changed, and the place that it learned
abbrev pub post_line : ℕ → Option Post → List ℕ
post_line k None = []
post_line k (Some post) = codes "node " ++ (decimal k ++ (codes " " ++ (post_text post ++ 10 ∷ [])))

abbrev pub learned_line : ℕ → Option ℕ → List ℕ
learned_line k None = []
learned_line k (Some place) = codes "node " ++ (decimal k ++ (codes " learned " ++ (decimal place ++ 10 ∷ [])))

abbrev pub sight_lines : Option Sight → List ℕ
sight_lines None = []
sight_lines (Some sight) = post_line sight.node sight.post ++ learned_line sight.node sight.learned

-- with a trace, behind an event's answer: the letter that came, what is seen of the node, the outputs, and the letters
-- that it sent
abbrev pub traced_lines : Bool → Row → List ℕ
traced_lines named row =
    (numbered_lines named (codes "came") row.came ++ sight_lines row.sight) ++ place_lines row.released ++ numbered_lines named (codes "letter") row.sent

-- the lines behind an answer: the outputs alone without a trace
abbrev pub further_lines : Trace → Row → List ℕ
further_lines Off row = place_lines row.released
further_lines Letters row = traced_lines false row
further_lines Named row = traced_lines true row

-- the lines of a row: its answer, behind its event's number, or behind that of a letter that came with others
abbrev pub first_line : Bool → Row → List ℕ
first_line false row = answer_line row.step row.answer
first_line true row = letter_answer_line row.came.0 row.answer

abbrev pub row_lines : Trace → Bool → Row → List ℕ
row_lines trace all row = first_line all row ++ further_lines trace row

-- the line in front of those of letters that came with one another: how many there were
abbrev pub delivered_line : Bool → ℕ → ℕ → List ℕ
delivered_line false n count = []
delivered_line true n count = decimal n ++ (codes " delivered " ++ (decimal count ++ 10 ∷ []))

-- the lines of an event of a script, and of several, where these are all rows
abbrev pub stage_lines : Trace → List Row → Stage → List ℕ
stage_lines trace rows stage =
    delivered_line stage.all stage.number (stage.to - stage.from) ++ flat_map (row_lines trace stage.all) (between (stage.from, stage.to) rows)

-- the last line
abbrev pub counts_line : ℕ → ℕ → ℕ → List ℕ
counts_line letters outputs transmissions =
    codes "letters " ++ (decimal letters ++ (codes " outputs " ++ (decimal outputs ++ (codes " transmissions " ++ (decimal transmissions ++ 10 ∷ [])))))

-- all lines of a run, traced or not
abbrev pub run_lines : Trace → Seen → List ℕ
run_lines trace run = flat_map (stage_lines trace run.rows) run.stages ++ counts_line (length run.letters) (length run.outputs) (length run.transmissions)
