use Rattle.std.proofs.Common.{◌∙◌, inl, subst}
use Rattle.node_lines.specs.Lines.{IsRefused}
use Rattle.node_journal.proofs.replies.what_is_asked.Goals as goal

pub returns-in-Err : goal.returns-in-Err
returns-in-Err c = inl (subst (λ l. IsRefused l c.in-Err.why) (c.new.ensures ∙ c.in_ok-from_slice.ensures.items) c.in-Err.ensures.fault)
