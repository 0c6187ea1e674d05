use Rattle.std.proofs.Common.{◌==◌, ◌∙◌, filter}
use Rattle.acceptor_store_parts.proofs.Words.{IfOk-weaker}
use Rattle.acceptor_store_parts.proofs.Shapes.{first_at}
use Rattle.acceptor_store_parts.proofs.reads.OptionCastAnswer.read.Goals as goal

pub returns : goal.returns
returns c = IfOk-weaker c.read_one.result _ _ (λ one told place d is. told (filter (λ v. v.0 == place) d.votes) is ∙ first_at place d.votes) c.read_one.ensures
