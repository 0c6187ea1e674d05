use Rattle.std.proofs.Common.{sym, ◌∙◌}
use Rattle.acceptor_store_parts.proofs.Words.{IfOk-weaker, rows_from}
use Rattle.acceptor_store_parts.proofs.Shapes.{all_shown}
use Rattle.acceptor_store_parts.proofs.reads.VotesAnswer.read.Goals as goal

pub returns : goal.returns
returns c = IfOk-weaker c.read_votes.result _ _ (λ got shown place d is. all_shown got (rows_from d.votes place) (sym shown ∙ is)) c.read_votes.ensures.ok
