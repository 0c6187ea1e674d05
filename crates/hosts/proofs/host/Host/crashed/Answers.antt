use Rattle.std.proofs.Common.{◌≡◌, ◌∙◌, ◌+◌, ◌-◌, arith, false, rules}
use Rattle.seats.specs.Occupant.{is_up}
use Rattle.hosts.specs.Hosts.{is_up_if_any}
use Rattle.hosts.proofs.Keeps.{down_there}
use Rattle.hosts.proofs.SlotLemmas.{slot_after, slot_before, slot_own}
use Rattle.hosts.proofs.host.Host.crashed.Goals as goal

pub returns-then-not-is_up : goal.returns-then-not-is_up
returns-then-not-is_up g c =
    let host = c.args.self.now in
    let down : is_up host.own ≡ false = search rules in
    (host.own, slot_own host.number host.before host.own host.after, down)

pub returns-then-not-is_up-2 : goal.returns-then-not-is_up-2
returns-then-not-is_up-2 g c =
    let host = c.args.self.now in
    let down : is_up host.after ≡ false = search rules in
    (host.after, slot_after host.number host.before host.own host.after, down)

pub returns-then-not-is_up_if_any : goal.returns-then-not-is_up_if_any
returns-then-not-is_up_if_any g c =
    let host = c.args.self.now in
    let down : is_up_if_any host.before ≡ false = search rules in
    let there = down_there host.before down in
    let below : host.number - 1 + 1 ≡ host.number = omega (arith, host.first) in
    (there.0, slot_before host.number host.before host.own host.after (host.number - 1) below ∙ there.1, there.2)
