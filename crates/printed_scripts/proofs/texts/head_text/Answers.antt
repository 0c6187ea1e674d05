use Rattle.printed_scripts.proofs.texts.head_text.Goals as goal

pub returns : goal.returns
returns c = rw (← c.count-count.ensures, ← c.in_ok-ids.ensures) c.format.ensures.ok
