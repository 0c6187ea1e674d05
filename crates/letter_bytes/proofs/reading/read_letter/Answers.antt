use Rattle.std.proofs.Common.{ap, arith, subst, ◌∙◌}
use Rattle.letter_bytes.specs.Reading.{Gives, TakesMemory, letter_of}
use Rattle.letter_bytes.proofs.Notes.{is_spelled, letter_again}
use Rattle.letter_bytes.proofs.reading.read_letter.Goals as goal

pub returns-clause-read : goal.returns-clause-read
returns-clause-read c = is_spelled (TakesMemory c.args.bytes.now) c.args.bytes.now c.take_letter.result (λ i. omega (arith, c.type_inv.bytes i)) c.take_letter.ensures

pub returns-clause-spelled : goal.returns-clause-spelled
returns-clause-spelled c = λ l spells. subst (λ r. Gives (TakesMemory c.args.bytes.now) c.take_letter.result r) (ap letter_of spells.1 ∙ letter_again l spells.0) c.take_letter.ensures
