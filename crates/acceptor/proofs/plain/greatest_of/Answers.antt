use Rattle.std.proofs.Common.{◌+◌, ap, arith}
use Rattle.ballots.specs.Ballots.{number_of}
use Rattle.ballots.specs.Rows.{rows_from}
use Rattle.acceptor.specs.Content.{greatest}
use Rattle.acceptor.proofs.SoundRows.{from_start, next_fits}
use Rattle.acceptor.proofs.plain.greatest_of.Goals as goal

pub loop-at-init : goal.loop-at-init
loop-at-init c = ap (greatest (number_of c.args.ballot)) (from_start c.args.votes.now.entries)

pub overflow_add-next : goal.overflow_add-next
overflow_add-next c =
    let votes = c.args.votes.now.entries in
    let fits = next_fits c.loop-at.next c.in-Some.at c.in-Some.vote.now votes (rows_from votes (c.in-Some.at + 1)) c.requires c.in-Some.ensures.row in
    omega (arith, fits.1)
