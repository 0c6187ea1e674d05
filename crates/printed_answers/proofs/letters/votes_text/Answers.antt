use Rattle.std.proofs.Common.{◌∙◌}
use Rattle.printed_answers.proofs.Votes.{one_vote_more}
use Rattle.printed_answers.proofs.letters.votes_text.Goals as goal

pub loop-row-preserved : goal.loop-row-preserved
loop-row-preserved c =
    one_vote_more c.rows-row-items.result.now c.loop-row.row-index c.row-item.result _ _ _ c.loop-row-test.true c.row-item.is
    c.loop-row.invariant (c.as_str.ensures.value ∙ c.in_ok-vote.ensures) c.in_ok-push_str.ensures.bytes
