use Rattle.std.proofs.Common.{◌≡◌, sym, subst, IfOk, string_bytes}
use Rattle.world_events.specs.declared.event.Event.{Event}
use Rattle.run_picture.specs.Words.{event_words}
use Rattle.run_picture.proofs.words.event_words.Goals as goal

pub returns-in-Offer : goal.returns-in-Offer
returns-in-Offer c =
    subst (λ (e : Event). IfOk c.offer_words.result (λ text. string_bytes text ≡ event_words e)) (sym c.in-Offer.is) c.offer_words.ensures
