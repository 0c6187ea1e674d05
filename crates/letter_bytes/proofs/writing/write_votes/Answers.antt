use Rattle.std.proofs.Common.{arith, subst}
use Rattle.std.proofs.lemmas.Grind.{common_steps}
use Rattle.std.proofs.lemmas.List.Elements.{All-more}
use Rattle.letter_bytes.specs.Spelling.{FitsVote}
use Rattle.letter_bytes.proofs.writing.write_votes.Goals as goal

pub loop-row-preserved : goal.loop-row-preserved
loop-row-preserved g c = record {
  bytes = grind (arith, common_steps);
  fits = All-more FitsVote c.args.rows.now c.loop-row.row-index _ c.loop-row-test.true c.loop-row.invariant.fits (subst FitsVote c.row-item.is c.in_ok-write_vote.ensures.fits);
}
