use Rattle.std.proofs.Common.{◌≡◌, ◌+◌, ◌<◌, arith, refl, rules}
use Rattle.seats.specs.Acted.{ask_of}
use Rattle.hosts.specs.Acting.{IsAskedIn}
use Rattle.hosts.proofs.ActedLemmas.{acts_at, acts_refused}
use Rattle.hosts.proofs.host.Host.act_near.Goals as goal

pub returns-in-Some : goal.returns-in-Some
returns-in-Some g c =
    record { acts = acts_refused c.args.self.now c.args.epoch c.args.places (ask_of c.args.asked) c.in-Some.refused (search rules) }

pub returns-then-epoch-self-2 : goal.returns-then-epoch-self-2
returns-then-epoch-self-2 g c =
    let near : IsAskedIn c.args.self.now c.args.epoch c.args.places = search rules in
    let above : c.args.self.now.number < c.args.epoch = search rules in
    let next : c.args.self.now.number + 1 ≡ c.args.epoch = omega (arith, near.high, above) in
    record { acts = acts_at c.args.self.now c.act_after.new.self (c.args.self.now.number + 1) c.args.epoch c.args.places (ask_of c.args.asked) c.act_after.result near.places next c.act_after.ensures }

pub returns : goal.returns
returns g c =
    let near : IsAskedIn c.args.self.now c.args.epoch c.args.places = search rules in
    let below : c.args.epoch < c.args.self.now.number = search rules in
    let before : c.args.epoch + 1 ≡ c.args.self.now.number = omega (arith, near.low, below) in
    record { acts = acts_at c.args.self.now c.act_before.new.self c.args.epoch c.args.epoch c.args.places (ask_of c.args.asked) c.act_before.result near.places refl (c.act_before.ensures c.args.epoch before) }
