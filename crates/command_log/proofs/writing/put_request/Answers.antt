use Rattle.std.proofs.Common.{append_assoc}
use Rattle.command_log.proofs.writing.put_request.Goals as goal

pub returns-clause-spelled : goal.returns-clause-spelled
returns-clause-spelled c =
    rw (c.in_ok-extend_from_slice-4.ensures.items, c.to_be_bytes-3.ensures, c.in_ok-extend_from_slice-3.ensures.items, c.to_be_bytes-2.ensures, c.in_ok-extend_from_slice-2.ensures.items, c.to_be_bytes.ensures, c.in_ok-extend_from_slice.ensures.items)
    (simp append_assoc)
