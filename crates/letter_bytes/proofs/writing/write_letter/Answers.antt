use Rattle.std.proofs.Common.{subst}
use Rattle.std.specs.Prelude.{All}
use Rattle.letter_bytes.specs.Spelling.{FitsVote}
use Rattle.letter_bytes.proofs.writing.write_letter.Goals as goal

pub returns-clause-fits : goal.returns-clause-fits
returns-clause-fits g c = record {
  front = c.in_ok-write_front.ensures.fits;
  votes = subst (All FitsVote) c.reported_votes.ensures c.in_ok-write_votes.ensures.fits;
}
