use Rattle.std.proofs.Common.{◌≡◌, string_bytes, take}
use Rattle.printed_answers.specs.Letters.{votes_text}
use Rattle.printed_answers.proofs.letters.votes_text.Given as goal

abbrev pub invariant-loop-row : goal.invariant-loop-row
invariant-loop-row l = string_bytes l.text ≡ votes_text (take l.row-index l.row-items)
