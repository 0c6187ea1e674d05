use Rattle.std.proofs.Common.{◌≡◌, ◌+◌, ◌-◌, ◌∙◌, arith, false, ap, sym, Some, rules}
use Rattle.seats.specs.Occupant.{is_up}
use Rattle.hosts.proofs.SlotLemmas.{slot_after, slot_before, slot_own}
use Rattle.hosts.proofs.host.Host.into_crashed.Goals as goal

pub returns-then-not-is_up : goal.returns-then-not-is_up
returns-then-not-is_up g c =
    let host = c.args.self in
    let down : is_up host.own ≡ false = search rules in
    record { seat = host.own; is = slot_own host.number host.before host.own host.after; down = down; same = search rules }

pub returns-then-not-is_up-2 : goal.returns-then-not-is_up-2
returns-then-not-is_up-2 g c =
    let host = c.args.self in
    let down : is_up host.after ≡ false = search rules in
    record { seat = host.after; is = slot_after host.number host.before host.own host.after; down = down; same = search rules }

pub returns : goal.returns
returns g c =
    let host = c.args.self in
    let below : host.number - 1 + 1 ≡ host.number = omega (arith, host.first) in
    let down : is_up c.in-Some.before ≡ false = search rules in
    let there : host.before ≡ Some c.in-Some.before = search rules in
    record { seat = c.in-Some.before; is = slot_before host.number host.before host.own host.after (host.number - 1) below ∙ there; down = down; same = search rules }
