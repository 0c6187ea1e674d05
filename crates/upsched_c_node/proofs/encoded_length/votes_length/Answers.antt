use Rattle.std.proofs.Common.{arith}
use Rattle.upsched_c_node.proofs.Encoding.{goes_on}
use Rattle.upsched_c_node.proofs.encoded_length.votes_length.Goals as goal

pub loop-vote-preserved : goal.loop-vote-preserved
loop-vote-preserved c =
    let so_far = c.loop-vote.invariant in
    let one = c.vote_length-sum.ensures in
    let index = c.loop-vote.vote-index in
    let within = c.loop-vote-test.true in (
      omega (arith, so_far.0, one.most),
      goes_on c.args.votes.now index c.loop-vote.sum c.vote_length-sum.result _ within so_far.1 one.length one.fits,
    )
