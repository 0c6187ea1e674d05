use Rattle.std.proofs.Common.{◌≡◌, ◌++◌, map, drop}
use Rattle.serde_json.specs.View.{view}
use Rattle.json_answers.specs.Letters.{vote_data}
use Rattle.json_answers.proofs.letters.vote_values.Given as goal

abbrev pub invariant-loop-row : goal.invariant-loop-row
invariant-loop-row l = map view l.values.items ++ map vote_data (drop l.row-index l.row-items) ≡ map vote_data l.row-items
