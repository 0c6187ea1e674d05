use Rattle.std.proofs.Common.{sym, ◌∙◌}
use Rattle.acceptor_store_parts.proofs.Words.{IfOk-weaker, rows_from}
use Rattle.acceptor_store_parts.proofs.Shapes.{all_learned_shown}
use Rattle.acceptor_store_parts.proofs.learned.VecTuple2PlaceValueAnswer.read.Goals as goal

pub returns : goal.returns
returns c = IfOk-weaker c.read_learned.result _ _ (λ got shown place d is. all_learned_shown got.items (rows_from d.learned place) (sym shown ∙ is)) c.read_learned.ensures.ok
