use Rattle.std.proofs.Common.{arith, sym, ◌∙◌}
use Rattle.upsched_c_node.proofs.Lengths.{of_highers, of_knowns, of_others, of_prepares}
use Rattle.upsched_c_node.proofs.encoded_length.numbers_length.Goals as goal

pub returns-in-1-clause-length : goal.returns-in-1-clause-length
returns-in-1-clause-length c note is = of_prepares note (sym c.in-1.is ∙ is)

pub returns-in-5-clause-length : goal.returns-in-5-clause-length
returns-in-5-clause-length c note is = of_highers note (sym c.in-5.is ∙ is)

pub returns-in-6-clause-length : goal.returns-in-6-clause-length
returns-in-6-clause-length c note is = of_knowns note (sym c.in-6.is ∙ is)

pub returns-in_default-clause-length : goal.returns-in_default-clause-length
returns-in_default-clause-length c note is =
    of_others note c.args.kind is (λ five. omega arith) (λ one. omega arith) (λ six. omega arith)
