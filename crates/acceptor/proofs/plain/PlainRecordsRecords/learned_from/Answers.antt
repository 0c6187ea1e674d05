use Rattle.std.proofs.Common.{ap, subst, ◌∙◌}
use Rattle.ballots.specs.Rows.{rows_from}
use Rattle.acceptor.specs.Content.{Content, IsSound}
use Rattle.acceptor.proofs.Certain.{held}
use Rattle.acceptor.proofs.plain.PlainRecordsRecords.learned_from.Goals as goal

pub returns-clause-value : goal.returns-clause-value
returns-clause-value c _ d holds = c.in_ok-all_learned_from.ensures ∙ ap (λ (x : Content). rows_from x.learned c.args.place) (c.self.view_is ∙ held c.args.self.now d holds)

pub returns-clause-sound : goal.returns-clause-sound
returns-clause-sound c _ d holds = subst IsSound (c.self.view_is ∙ held c.args.self.now d holds) c.self.invariant.1
