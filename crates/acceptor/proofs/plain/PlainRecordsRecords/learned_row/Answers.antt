use Rattle.std.proofs.Common.{ap, ◌∙◌}
use Rattle.ballots.specs.Rows.{at}
use Rattle.acceptor.specs.Content.{Content}
use Rattle.acceptor.proofs.Certain.{held}
use Rattle.acceptor.proofs.plain.PlainRecordsRecords.learned_row.Goals as goal

pub returns-clause-value : goal.returns-clause-value
returns-clause-value c _ d holds = c.in_ok-learned_at.ensures ∙ ap (λ (x : Content). at x.learned c.args.place) (c.self.view_is ∙ held c.args.self.now d holds)
