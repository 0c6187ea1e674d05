use Rattle.std.proofs.Common.{arith}
use Rattle.hex.specs.Hex.{lower_digits}
use Rattle.hex.proofs.HexLemmas.{length-encode_with}
use Rattle.letter_bytes.specs.Spelling.{spelling}
use Rattle.letter_bytes.proofs.Callers.{letter-at_most, letter-longest}
use Rattle.node_lines.proofs.laws.no_line_is_longer.Goals as goal

pub returns-clause-most : goal.returns-clause-most
returns-clause-most c = λ l within. omega (arith, length-encode_with lower_digits (spelling l), letter-at_most l within)

pub returns-clause-met : goal.returns-clause-met
returns-clause-met c = λ l reports. omega (arith, length-encode_with lower_digits (spelling l), letter-longest l reports)
