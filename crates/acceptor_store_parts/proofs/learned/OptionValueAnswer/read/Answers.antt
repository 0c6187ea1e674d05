use Rattle.std.proofs.Common.{◌==◌, ◌∙◌, filter}
use Rattle.acceptor_store_parts.proofs.Words.{IfOk-weaker}
use Rattle.acceptor_store_parts.proofs.Shapes.{first_at}
use Rattle.acceptor_store_parts.proofs.learned.OptionValueAnswer.read.Goals as goal

pub returns : goal.returns
returns c = IfOk-weaker c.first_learned.result _ _ (λ one told place d is. told (filter (λ v. v.0 == place) d.learned) is ∙ first_at place d.learned) c.first_learned.ensures
