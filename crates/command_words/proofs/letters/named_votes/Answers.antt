use Rattle.command_words.specs.Letters.{named_vote}
use Rattle.command_words.proofs.Votes.{item_more}
use Rattle.command_words.proofs.letters.named_votes.Goals as goal

pub loop-row-preserved : goal.loop-row-preserved
loop-row-preserved c =
    item_more named_vote c.rows-row-items.result.now c.loop-row.row-index c.row-item.result _ _ _ c.loop-row-test.true c.row-item.is c.in_ok-add_vote.ensures
    c.loop-row.invariant
