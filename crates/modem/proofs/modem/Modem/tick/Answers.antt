use Rattle.std.proofs.Common.{◌≡◌, ◌+◌, ◌≤◌, Some, length, vec_len, refl, sym, ◌∙◌}
use Rattle.modem.proofs.Old.{HasFewOld-made}
use Rattle.modem.specs.State.{channel_of}
use Rattle.modem.specs.contracts.modem.Modem.{the_view}
use Rattle.modem.proofs.Transmits.{Ticks-held}
use Rattle.modem.proofs.Stands.{Ticks-seen, Ticks-stands}
use Rattle.modem.proofs.Sights.{AreSights-moved}
use Rattle.modem.proofs.Spans.{AreSpans-sent}
use Rattle.modem.proofs.modem.Modem.tick.Goals as goal

pub keep_lasting-requires-clause-spans : goal.keep_lasting-requires-clause-spans
keep_lasting-requires-clause-spans c =
    let fields = c.self.inside in
    let sends = rw c.as_slice-leases.ensures.value at c.send-sending.ensures in
    rw c.as_slice-leases.ensures.value (AreSpans-sent fields.leases.items fields.wants.items c.in-Some.channel c.get-at.result c.args.random c.send-sending.result c.send-sending.new.wants.items fields.spans.items c.self.invariant.3 c.look-sight.result.is_open c.look-sight.result.counted sends)

pub invariant_of-self : goal.invariant_of-self
invariant_of-self c =
    let fields = c.self.inside in
    let size : vec_len fields.channels ≡ length fields.channels.items = fields.channels.ok.0 in (
      c.look-sight.ensures.known.grants,
      c.look-sight.ensures.known.opens,
      AreSights-moved c.len-count.result c.look-sight.new.grants.items c.look-sight.new.shared.items c.look-sight.new.sights.items (record c.in-Some.channel { clock = c.get-at.result + 1 }) fields.channels.items c.set.new.channels.items (c.len-count.ensures ∙ size) c.set.ensures c.look-sight.ensures.known.sights,
      rw c.as_slice-leases.ensures.value at c.keep_lasting.ensures.spans,
    )

pub returns-clause-ticks : goal.returns-clause-ticks
returns-clause-ticks c =
    let found : channel_of c.self.inside.channels.items c.args.ch ≡ Some c.in-Some.channel = rw c.as_slice.ensures.value at (sym c.in-Some.ensures) in
    let seen = rw c.get-at.ensures.same at c.look-sight.ensures.seen in
    let sends = rw (c.as_slice-leases.ensures.value, c.get-at.ensures.same) at c.send-sending.ensures in
    let lasts = rw (c.as_slice-leases.ensures.value, c.get-at.ensures.same) at c.keep_lasting.ensures.wants in
    let grants = rw c.get-at.ensures.same at c.look-sight.ensures.grants_held in
    let open_to_all = rw c.get-at.ensures.same at c.look-sight.ensures.opens_held in
    let made = rw c.get-at.ensures.same at c.set.ensures in
    rw (← c.self.view_is, found) (λ late. Ticks-seen c.len-count.result _ _ c.in-Some.channel c.args.ch c.args.slot c.args.random c.send-sending.result c.look-sight.result.counted c.look-sight.result.is_open c.send-sending.new.wants.items found refl refl grants open_to_all made seen sends lasts)

pub returns-clause-stands : goal.returns-clause-stands
returns-clause-stands c hearings h =
    let known : channel_of c.args.self.now.channels c.args.ch ≡ Some c.in-Some.channel = rw (← c.self.view_is) (rw c.as_slice.ensures.value at (sym c.in-Some.ensures)) in
    let late : c.in-Some.channel.clock ≤ c.args.slot = rw c.get-at.ensures.same at c.if-at-channel.false in
    Ticks-stands c.args.self.now _ c.in-Some.channel c.args.ch c.args.slot c.args.random c.send-sending.result hearings known late ((rw known at (returns-clause-ticks c)) late) h

pub returns-clause-held : goal.returns-clause-held
returns-clause-held c hearings sid h is =
    let known : channel_of c.args.self.now.channels c.args.ch ≡ Some c.in-Some.channel = rw (← c.self.view_is) (rw c.as_slice.ensures.value at (sym c.in-Some.ensures)) in
    let late : c.in-Some.channel.clock ≤ c.args.slot = rw c.get-at.ensures.same at c.if-at-channel.false in
    Ticks-held c.args.self.now _ c.in-Some.channel c.args.ch c.args.slot c.args.random c.send-sending.result hearings sid known late ((rw known at (returns-clause-ticks c)) late) h is

pub returns-clause-lets_go : goal.returns-clause-lets_go
returns-clause-lets_go c =
    let found : channel_of c.self.inside.channels.items c.args.ch ≡ Some c.in-Some.channel = rw c.as_slice.ensures.value at (sym c.in-Some.ensures) in
    let size : vec_len c.self.inside.channels ≡ length c.self.inside.channels.items = c.self.inside.channels.ok.0 in
    let grants = rw (c.get-at.ensures.same, c.len-count.ensures, size) at c.look-sight.ensures.seen.few.few_grants in
    let open_to_all = rw (c.get-at.ensures.same, c.len-count.ensures, size) at c.look-sight.ensures.seen.few.few_open in
    let made = rw c.get-at.ensures.same at c.set.ensures in
    rw (← c.self.view_is, found) (λ late. HasFewOld-made (the_view c.self.inside) _ c.in-Some.channel c.args.ch (c.args.slot + 1) found made grants open_to_all)
