use Rattle.printed_scripts.proofs.texts.event_text.Goals as goal

pub returns-in_ok-digits-in-Offer : goal.returns-in_ok-digits-in-Offer
returns-in_ok-digits-in-Offer c = rw (c.in-Offer.is, ← c.as_slice.ensures, ← c.in_ok-digits-in-Offer.ensures) c.format-in-Offer.ensures.ok
