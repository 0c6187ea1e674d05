use Rattle.std.proofs.Common.{◌∙◌, inl, inr, refl, sym}
use Rattle.std.proofs.lemmas.Result.{IfOk-weaker}
use Rattle.sqlite.specs.Files.{file_state}
use Rattle.stored_nodes.proofs.Copied.{each_clean}
use Rattle.stored_nodes.proofs.foreign.cause_in.Goals as goal

pub returns-in-Ok : goal.returns-in-Ok
returns-in-Ok g c never =
    let read = c.in-Ok.ensures.read never in
    IfOk-weaker c.cause_of.result _ _ (λ cause is. inr ((file_state c.in-Ok.conn).now, read, is)) (c.cause_of.ensures (each_clean {g = g.D.Disk} never) read.sound)

pub returns-in-Err-Refused : goal.returns-in-Err-Refused
returns-in-Err-Refused g c never =
    elim (c.in-Err-Refused.ensures.unread never) [
      | inl memory ↦ absurd (cc (sym c.in-Err-Refused.field-0-is ∙ memory))
      | inr it ↦ inl (it.1, refl)
    ]
