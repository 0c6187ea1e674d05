use Rattle.node_lines.proofs.Written.{line_written}
use Rattle.node_lines.proofs.writing.write_line.Goals as goal

pub returns : goal.returns
returns g c =
    line_written c.args.letter.now _ _ _ _ _ (rw c.number.ensures.same at c.in_ok-write_receiver.ensures) c.in_ok-write_front_digits.ensures
    (rw c.reported_votes.ensures at c.in_ok-write_votes_digits.ensures) c.in_ok-write_all.ensures.bytes
