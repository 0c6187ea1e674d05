use Rattle.std.proofs.Common.{◌≡◌, List, refl, subst}
use Rattle.seats.specs.declared.answer.ReleasedOutput.{ReleasedOutput}
use Rattle.seats.specs.Modems.{ModemNext}
use Rattle.world_events.specs.declared.event.Event.TheVariants as event
use Rattle.world_events.specs.declared.event.Event.TheVariants.{Hear}
use Rattle.network_script.proofs.Asking.{asked, by_number, delivered, delivered_last, listened, to_restart}
use Rattle.network_script.proofs.world.World.happen.Goals as goal

pub returns-in-Lead : goal.returns-in-Lead
returns-in-Lead g c = rw c.in-Lead.is (asked c.args.self.now c.ask.new.self (event.Lead c.in-Lead.k) c.in-Lead.k _ c.ask.result
    (by_number c.args.self.now (event.Lead c.in-Lead.k) _ _ (λ members w w' answer of. of) (λ o o' answer of. of) refl) c.ask.ensures)

pub returns-in-Offer : goal.returns-in-Offer
returns-in-Offer g c = rw (c.in-Offer.is, ← c.as_slice.ensures) (asked c.args.self.now c.ask-in-Offer.new.self (event.Offer c.in-Offer.k c.as_slice.result.now) c.in-Offer.k _ c.ask-in-Offer.result
    (by_number c.args.self.now (event.Offer c.in-Offer.k c.as_slice.result.now) _ _ (λ members w w' answer of. of) (λ o o' answer of. of) refl) c.ask-in-Offer.ensures)

pub returns-in-Tell : goal.returns-in-Tell
returns-in-Tell g c = rw c.in-Tell.is (asked c.args.self.now c.ask-in-Tell.new.self (event.Tell c.in-Tell.k c.in-Tell.to c.in-Tell.place) c.in-Tell.k _ c.ask-in-Tell.result
    (by_number c.args.self.now (event.Tell c.in-Tell.k c.in-Tell.to c.in-Tell.place) _ _ (λ members w w' answer of. of) (λ o o' answer of. of) refl) c.ask-in-Tell.ensures)

pub returns-in-Deliver : goal.returns-in-Deliver
returns-in-Deliver g c = rw c.in-Deliver.is (delivered c.args.self.now c.deliver.new.self c.in-Deliver.i c.deliver.result c.deliver.ensures)

pub returns-in-DeliverThenCrash : goal.returns-in-DeliverThenCrash
returns-in-DeliverThenCrash g c = rw c.in-DeliverThenCrash.is (delivered_last c.args.self.now c.deliver-in-DeliverThenCrash.new.self c.in-DeliverThenCrash.i c.deliver-in-DeliverThenCrash.result c.deliver-in-DeliverThenCrash.ensures)

pub returns-in-Crash : goal.returns-in-Crash
returns-in-Crash g c = rw c.in-Crash.is (asked c.args.self.now c.ask-in-Crash.new.self (event.Crash c.in-Crash.k) c.in-Crash.k _ c.ask-in-Crash.result
    (by_number c.args.self.now (event.Crash c.in-Crash.k) _ _ (λ members w w' answer of. of) (λ o o' answer of. of) refl) c.ask-in-Crash.ensures)

pub returns-in-Restart : goal.returns-in-Restart
returns-in-Restart g c = rw c.in-Restart.is (asked c.args.self.now c.ask-in-Restart.new.self (event.Restart c.in-Restart.k) c.in-Restart.k _ c.ask-in-Restart.result (to_restart c.args.self.now c.in-Restart.k) c.ask-in-Restart.ensures)

pub returns-in-Release : goal.returns-in-Release
returns-in-Release g c = rw c.in-Release.is (asked c.args.self.now c.ask-in-Release.new.self (event.Release c.in-Release.k c.in-Release.now) c.in-Release.k _ c.ask-in-Release.result
    (by_number c.args.self.now (event.Release c.in-Release.k c.in-Release.now) _ _ (λ members w w' answer of. of) (λ o o' answer of. of) refl) c.ask-in-Release.ensures)

pub returns-in-Hear : goal.returns-in-Hear
returns-in-Hear g c = rw c.in-Hear.is (listened c.args.self.now _ (event.Hear c.in-Hear.m c.in-Hear.i c.in-Hear.near) c.hear.result (λ members w w' of. of) (λ o o' of. of) refl refl refl c.hear.ensures.quiet c.hear.ensures.sent
    (λ modems hold.
    let is : c.deref.result.now ≡ c.args.self.now.outputs.items = c.deref.ensures.value in
    let r = c.hear.ensures.next modems hold in
    (r.0, subst (λ (outputs : List ReleasedOutput). ModemNext modems outputs (Hear c.in-Hear.m c.in-Hear.i c.in-Hear.near) c.hear.result r.0) is r.1, r.2)))

pub returns-in-Want : goal.returns-in-Want
returns-in-Want g c = rw c.in-Want.is (listened c.args.self.now _ (event.Want c.in-Want.m c.in-Want.ch c.in-Want.sid c.in-Want.n) c.want.result (λ members w w' of. of) (λ o o' of. of) refl refl refl c.want.ensures.quiet c.want.ensures.sent
    (λ modems hold. c.want.ensures.next modems c.args.self.now.outputs.items hold))

pub returns-in-Tick : goal.returns-in-Tick
returns-in-Tick g c = rw c.in-Tick.is (listened c.args.self.now _ (event.Tick c.in-Tick.m c.in-Tick.ch c.in-Tick.slot c.in-Tick.random) c.tick.result (λ members w w' of. of) (λ o o' of. of) refl refl refl c.tick.ensures.quiet c.tick.ensures.sent
    (λ modems hold. c.tick.ensures.next modems c.args.self.now.outputs.items hold))
