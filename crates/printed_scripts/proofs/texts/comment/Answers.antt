use Rattle.printed_scripts.proofs.texts.comment.Goals as goal

pub returns : goal.returns
returns c = rw (c.in-Offer.is, ← c.in_ok-words.ensures) c.format.ensures.ok
