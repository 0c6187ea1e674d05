use Rattle.std.proofs.Common.{◌∙◌, inl, inr, sym}
use Rattle.sqlite.specs.Files.{file_state}
use Rattle.stored_nodes.proofs.Copied.{always_clean}
use Rattle.stored_nodes.proofs.times.count_in.Goals as goal

pub returns-in-Ok-counted : goal.returns-in-Ok-counted
returns-in-Ok-counted g c never =
    let read = c.in-Ok.ensures.read never in
    ((file_state c.in-Ok.conn).now, read, c.in-Ok-counted.ensures (λ store. always_clean {g = g.D.Disk} never store) read.sound)

pub returns-in-Err-Refused : goal.returns-in-Err-Refused
returns-in-Err-Refused g c never = elim (c.in-Err-Refused.ensures.unread never) [
  | inl memory ↦ absurd (cc (sym memory ∙ c.in-Err-Refused.field-0-is))
  | inr it ↦ it.1
]
