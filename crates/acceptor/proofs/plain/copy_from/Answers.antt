use Rattle.std.proofs.Common.{◌+◌, arith}
use Rattle.ballots.specs.Rows.{rows_from}
use Rattle.acceptor.proofs.SoundRows.{next_fits}
use Rattle.acceptor.proofs.plain.copy_from.Goals as goal

pub overflow_add-next : goal.overflow_add-next
overflow_add-next c =
    let votes = c.args.votes.now.entries in
    let fits = next_fits c.loop-at.next c.in-Some.at c.in-Some.vote.now votes (rows_from votes (c.in-Some.at + 1)) c.requires c.in-Some.ensures.row in
    omega (arith, fits.1)
