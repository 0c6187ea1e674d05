use Rattle.std.proofs.Common.{◌≡◌, ◌++◌, ◌+◌, map, drop}
use Rattle.serde_json.specs.View.{view}
use Rattle.json_answers.specs.Letters.{letters_from}
use Rattle.json_answers.proofs.letters.letter_values.Given as goal

abbrev pub invariant-loop-index : goal.invariant-loop-index
invariant-loop-index l =
    map view l.values.items ++ letters_from (l.numbered.first + l.index) (drop l.index l.numbered.letters.now) ≡ letters_from l.numbered.first l.numbered.letters.now
