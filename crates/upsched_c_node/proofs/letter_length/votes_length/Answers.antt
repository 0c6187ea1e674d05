use Rattle.std.proofs.Common.{arith, subst}
use Rattle.std.proofs.lemmas.List.Elements.{All-more}
use Rattle.letter_bytes.specs.Spelling.{FitsVote}
use Rattle.upsched_c_node.proofs.Lengths.{at_least, one_more}
use Rattle.upsched_c_node.proofs.letter_length.votes_length.Goals as goal

pub returns-in-None-clause-length : goal.returns-in-None-clause-length
returns-in-None-clause-length c =
    let most = at_least c.args.rows.now c.loop-row.row-index c.row-item.result c.loop-row-test.true in
    grind (arith, most, c.loop-row.invariant.0, c.row-item.is, c.vote_length.ensures.length, c.in-None.ensures)

pub loop-row-preserved : goal.loop-row-preserved
loop-row-preserved c =
    let more = one_more c.args.rows.now c.loop-row.row-index c.row-item.result c.loop-row-test.true in (
      grind (arith, more, c.loop-row.invariant.0, c.row-item.is, c.vote_length.ensures.length, c.in-Some.ensures),
      All-more FitsVote c.args.rows.now c.loop-row.row-index c.row-item.result c.loop-row-test.true c.loop-row.invariant.1 (subst FitsVote c.row-item.is c.vote_length.ensures.fits),
    )
