use Rattle.std.proofs.Common.{◌≡◌, ◌==◌, ◌&&◌, length, map, max, refl, arith}
use Rattle.std.specs.List.{filter, filter_map}
use Rattle.map_body.specs.declared.interval.Interval.{Interval}
use Rattle.map_body.specs.Intervals.{intervals}
use Rattle.map_body.specs.Sids.{everybody}
use Rattle.modem.specs.KeptIntervals.{kept_interval, covered}
use Rattle.modem.specs.Wants.{lasting}
use Rattle.modem.specs.Intervals.{decided}
use Rattle.modem.specs.contracts.modem.Modem.{the_view}
use Rattle.modem.proofs.Old.{HasNoOld-made}
use Rattle.modem.proofs.Given.{Takes-made, KeepsWith-made, of_map}
use Rattle.modem.proofs.modem.Modem.take.Goals as goal

pub returns-clause-ok : goal.returns-clause-ok
returns-clause-ok c =
    let fields = c.self.inside in
    let m = c.args.map.now in
    let start = c.args.start in
    let given : c.in_ok-given.given.items ≡ intervals m.elements = c.in_ok-given.ensures in
    let own : c.in_ok-own.own.items ≡ covered fields.leases.items (of_map m start (intervals m.elements)) = rw (c.as_slice-heard.ensures.value, c.as_slice-leases.ensures.value, given, c.head-head.ensures, c.get-first.ensures.same) at c.in_ok-own.ensures.items in
    let opened : c.in_ok-open.«open».items ≡ of_map m start (filter (λ (i : Interval). (i.sid == everybody) && (i.iuc == 1)) (intervals m.elements)) = rw (c.as_slice-heard.ensures.value, given, c.head-head.ensures, c.get-first.ensures.same) at c.in_ok-open.ensures.items in
    let wants : c.in_ok-wants.wants.items ≡ filter_map (decided fields.leases.items m start c.ack_time-ack.result) fields.wants.items = rw (c.as_slice.ensures.value, c.as_slice-leases.ensures.value, c.get-first.ensures.same) at c.in_ok-wants.ensures in
    let lasts : c.keep_lasting.new.wants.items ≡ lasting fields.leases.items c.args.channel.id (max c.args.channel.clock c.args.near) (filter_map (decided fields.leases.items m start c.ack_time-ack.result) fields.wants.items) = rw (c.as_slice-leases.ensures.value, wants, c.max-clock.ensures, c.get.ensures.same) at c.keep_lasting.ensures in
    let grants = KeepsWith-made (map kept_interval fields.grants.items) (map kept_interval c.add_all.new.kept.items) (map kept_interval c.let_go.new.kept.items) m.head.channel (max c.args.channel.clock c.args.near) (covered fields.leases.items (of_map m start (intervals m.elements))) (rw (c.in_ok-reserve.ensures.items, c.as_slice-2.ensures.value, own) at c.add_all.ensures.held) (rw (c.head-head.ensures, c.max-clock.ensures, c.get.ensures.same) at c.let_go.ensures.held) in
    let opens = KeepsWith-made (map kept_interval fields.open_to_all.items) (map kept_interval c.add_all-2.new.kept.items) (map kept_interval c.let_go-2.new.kept.items) m.head.channel (max c.args.channel.clock c.args.near) (of_map m start (filter (λ (i : Interval). (i.sid == everybody) && (i.iuc == 1)) (intervals m.elements))) (rw (c.in_ok-reserve-2.ensures.items, c.as_slice-3.ensures.value, opened) at c.add_all-2.ensures.held) (rw (c.head-head.ensures, c.max-clock.ensures, c.get.ensures.same) at c.let_go-2.ensures.held) in
    rw (← c.self.view_is) (Takes-made _ _ c.args.channel c.args.near m start c.ack_time-ack.result (rw (← c.self.view_is) at c.requires) refl (rw (c.head-head.ensures, c.max-clock.ensures, c.get.ensures.same) at c.set.ensures) (rw (c.max-clock.ensures, c.get.ensures.same) at c.keep_recent.ensures) grants opens (rw c.head-head.ensures at c.ack_time-ack.ensures) lasts)

pub returns-clause-lets_go : goal.returns-clause-lets_go
returns-clause-lets_go c =
    let m = c.args.map.now in
    let clock = max c.args.channel.clock c.args.near in
    let grants = (rw (c.head-head.ensures, c.max-clock.ensures, c.get.ensures.same) at c.let_go.ensures.none_old) clock (omega arith) in
    let opens = (rw (c.head-head.ensures, c.max-clock.ensures, c.get.ensures.same) at c.let_go-2.ensures.none_old) clock (omega arith) in
    HasNoOld-made (the_view c.self.inside) _ c.args.channel m.head.channel clock m.head.data_backoff (rw (← c.self.view_is) at c.requires) (rw (c.head-head.ensures, c.max-clock.ensures, c.get.ensures.same) at c.set.ensures) grants opens

pub invariant_of-self-2 : goal.invariant_of-self-2
invariant_of-self-2 c = (
  c.let_go.ensures.kept,
  c.let_go-2.ensures.kept,
  c.forget.ensures (length c.set.new.channels.items) c.let_go.new.kept.items c.let_go-2.new.kept.items,
  c.forget-2.ensures c.keep_recent.new.leases.items c.keep_lasting.new.wants.items,
)
