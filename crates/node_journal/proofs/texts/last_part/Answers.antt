use Rattle.node_journal.proofs.Pieces.{common_part}
use Rattle.node_journal.proofs.texts.last_part.Goals as goal

pub returns : goal.returns
returns c =
    common_part c.args.text.now c.args.reply.now c.written_part-count.result c.written_part-count.ensures.first c.written_part-count.ensures.same
