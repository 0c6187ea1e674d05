use Rattle.std.proofs.Common.{ℕ, ◌^◌, refl, subst}
use Rattle.std.specs.Option.{IfSome}
use Rattle.modem.specs.NextEvent.{AreQuiet, IsNext}
use Rattle.modem.specs.State.{KnownChannel, channel_of}
use Rattle.upsched_c.proofs.Known.{known}
use Rattle.upsched_c.proofs.modem_calls.tell_next.Goals as goal

pub returns-in_default-next_event : goal.returns-in_default-next_event
returns-in_default-next_event c =
    let v = c.in-Modem.modem in
    let quiet = subst (λ (from : ℕ). IfSome (channel_of v.channels c.args.ch) (λ k. AreQuiet v k from (2 ^ 63))) c.in-Some.ensures.found.0 c.in_default-next_event.ensures.never in
    rw c.in-Modem.is (c.in-Some.ensures.found.1, quiet, refl, refl)

pub returns : goal.returns
returns c =
    let v = c.in-Modem.modem in
    let e = c.in-Some-next_event.found in
    let next = known (channel_of v.channels c.args.ch) (λ (k : KnownChannel). IsNext v k c.in-Some.from e.slot e.action) (λ none. let told = c.in-Some-next_event.ensures.unknown none in cc) c.in-Some-next_event.ensures.next in
    let from = subst (λ (from : ℕ). IsNext v next.0 from e.slot e.action) c.in-Some.ensures.found.0 next.2 in
    rw c.in-Modem.is (c.in-Some.ensures.found.1, next.0, next.1, e.slot, e.action, from, refl, c.event_fields.ensures)
