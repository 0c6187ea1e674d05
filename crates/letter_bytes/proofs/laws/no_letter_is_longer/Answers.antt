use Rattle.letter_bytes.proofs.Longest.{letter-at_most, letter-longest}
use Rattle.letter_bytes.proofs.laws.no_letter_is_longer.Goals as goal

pub returns-clause-most : goal.returns-clause-most
returns-clause-most c = letter-at_most

pub returns-clause-met : goal.returns-clause-met
returns-clause-met c = letter-longest
