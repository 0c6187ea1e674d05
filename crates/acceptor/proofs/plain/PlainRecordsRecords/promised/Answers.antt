use Rattle.std.proofs.Common.{ap, ◌∙◌}
use Rattle.acceptor.specs.Content.{promised}
use Rattle.acceptor.proofs.Certain.{held}
use Rattle.acceptor.proofs.plain.PlainRecordsRecords.promised.Goals as goal

pub returns-clause-value : goal.returns-clause-value
returns-clause-value c _ d holds = c.self.invariant.0 ∙ ap promised (c.self.view_is ∙ held c.args.self.now d holds)
