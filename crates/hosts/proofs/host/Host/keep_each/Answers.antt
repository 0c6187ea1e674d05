use Rattle.std.proofs.Common.{◌≡◌, ◌∙◌, ◌+◌, ◌-◌, arith, rules}
use Rattle.hosts.specs.Keeping.{FailsIfAny, FailsInSeat, KeepsSeat, NoneOrBoth}
use Rattle.hosts.proofs.Keeps.{before_below, failed_there, kept_if_any, none_below, own_below}
use Rattle.hosts.proofs.SlotLemmas.{slot_after, slot_before, slot_own}
use Rattle.hosts.proofs.host.Host.keep_each.Goals as goal

pub returns-in-Err-clause-fails : goal.returns-in-Err-clause-fails
returns-in-Err-clause-fails g c =
    let host = c.args.self.now in
    let now = c.keep_if_any.new.seat in
    let fails : FailsIfAny g.O.Opens c.in-Err.why host.before now = search rules in
    let found = failed_there g.O.Opens c.in-Err.why host.before now fails in
    let below : host.number - 1 + 1 ≡ host.number = omega (arith, host.first) in
    record {
      before = found.0;
      after = found.1;
      was = slot_before host.number host.before host.own host.after (host.number - 1) below ∙ found.2;
      is = slot_before host.number now host.own host.after (host.number - 1) below ∙ found.3;
      fails = found.4;
    }

pub returns-in-Err-keep_seat-clause-fails : goal.returns-in-Err-keep_seat-clause-fails
returns-in-Err-keep_seat-clause-fails g c =
    let host = c.args.self.now in
    let before = c.keep_if_any.new.seat in
    let now = c.keep_seat.new.seat in
    let fails : FailsInSeat g.O.Opens c.in-Err-keep_seat.why host.own now = search rules in
    record {
      before = host.own;
      after = now;
      was = slot_own host.number host.before host.own host.after;
      is = slot_own host.number before now host.after;
      fails = fails;
    }

pub returns-in-Err-keep_seat-2-clause-fails : goal.returns-in-Err-keep_seat-2-clause-fails
returns-in-Err-keep_seat-2-clause-fails g c =
    let host = c.args.self.now in
    let before = c.keep_if_any.new.seat in
    let own = c.keep_seat.new.seat in
    let now = c.keep_seat-2.new.seat in
    let fails : FailsInSeat g.O.Opens c.in-Err-keep_seat-2.why host.after now = search rules in
    record {
      before = host.after;
      after = now;
      was = slot_after host.number host.before host.own host.after;
      is = slot_after host.number before own now;
      fails = fails;
    }

pub returns-in-Err-clause-below : goal.returns-in-Err-clause-below
returns-in-Err-clause-below g c =
    let host = c.args.self.now in
    none_below g.O.Opens host.number c.keep_if_any.new.seat host.own host.after host.first

pub returns-in-Err-keep_seat-clause-below : goal.returns-in-Err-keep_seat-clause-below
returns-in-Err-keep_seat-clause-below g c =
    let host = c.args.self.now in
    let before = c.keep_if_any.new.seat in
    let keeps : NoneOrBoth (KeepsSeat g.O.Opens) host.before before = search rules in
    before_below g.O.Opens host.number before c.keep_seat.new.seat host.after (kept_if_any g.O.Opens host.before before keeps)

pub returns-in-Err-keep_seat-2-clause-below : goal.returns-in-Err-keep_seat-2-clause-below
returns-in-Err-keep_seat-2-clause-below g c =
    let host = c.args.self.now in
    let before = c.keep_if_any.new.seat in
    let own = c.keep_seat.new.seat in
    let keeps : NoneOrBoth (KeepsSeat g.O.Opens) host.before before = search rules in
    let owned : KeepsSeat g.O.Opens host.own own = search rules in
    own_below g.O.Opens host.number before own c.keep_seat-2.new.seat (kept_if_any g.O.Opens host.before before keeps) owned.kept
