use Rattle.std.proofs.Common.{length, max, refl, arith}
use Rattle.modem.specs.contracts.modem.Modem.{the_view}
use Rattle.modem.proofs.Old.{HasNoOld-made}
use Rattle.modem.proofs.Stands.{KeepsHeld-made}
use Rattle.modem.proofs.modem.Modem.pass.Goals as goal

pub returns-clause-passes : goal.returns-clause-passes
returns-clause-passes c =
    let found = rw (← c.self.view_is) at c.requires in
    let grants = rw (c.max-clock.ensures, c.get.ensures.same) at c.let_go.ensures.held in
    let open_to_all = rw (c.max-clock.ensures, c.get.ensures.same) at c.let_go-2.ensures.held in
    let lasts = rw (c.as_slice.ensures.value, c.max-clock.ensures, c.get.ensures.same) at c.keep_lasting.ensures in
    let gone = rw (c.max-clock.ensures, c.get.ensures.same) at c.keep_recent.ensures in
    let made = rw (c.max-clock.ensures, c.get.ensures.same) at c.set.ensures in
    rw (← c.self.view_is) (record {
      id = refl;
      channels = made;
      leases = gone;
      held = KeepsHeld-made (the_view c.self.inside) _ c.args.channel c.args.channel.id (max c.args.channel.clock c.args.near) c.args.channel.backoff found made grants open_to_all;
      wants = lasts;
    })

pub returns-clause-lets_go : goal.returns-clause-lets_go
returns-clause-lets_go c =
    let clock = max c.args.channel.clock c.args.near in
    let found = rw (← c.self.view_is) at c.requires in
    let grants = (rw (c.max-clock.ensures, c.get.ensures.same) at c.let_go.ensures.none_old) clock (omega arith) in
    let open_to_all = (rw (c.max-clock.ensures, c.get.ensures.same) at c.let_go-2.ensures.none_old) clock (omega arith) in
    let made = rw (c.max-clock.ensures, c.get.ensures.same) at c.set.ensures in
    HasNoOld-made (the_view c.self.inside) _ c.args.channel c.args.channel.id clock c.args.channel.backoff found made grants open_to_all

pub invariant_of-self : goal.invariant_of-self
invariant_of-self c = (
  c.let_go.ensures.kept,
  c.let_go-2.ensures.kept,
  c.forget.ensures (length c.set.new.channels.items) c.let_go.new.kept.items c.let_go-2.new.kept.items,
  c.forget-2.ensures c.keep_recent.new.leases.items c.keep_lasting.new.wants.items,
)
