use Rattle.std.proofs.Common.{◌≡◌, ◌<◌, ◌≤◌, take, subst}
use Rattle.std.specs.List.{All}
use Rattle.std.proofs.lemmas.List.{take_more, take_all}
use Rattle.modem.specs.declared.kept.KeptInterval.{KeptInterval}
use Rattle.std.proofs.lemmas.List.Elements.{All-push}
use Rattle.modem.proofs.kept.least_stop.Goals as goal

pub loop-interval-preserved : goal.loop-interval-preserved
loop-interval-preserved c =
    let one : KeptInterval = c.interval-item.result in
    let ks = c.args.kept.now in
    let i = c.loop-interval.interval-index in (
      c.sooner-least.ensures.after c.args.«at» c.loop-interval.invariant.0 c.stop_of.ensures.after,
      λ x before.
          let b = c.sooner-least.ensures.before x before in
          rw (take_more ks i one c.loop-interval-test.true, ← c.interval-item.is) (All-push (λ (k : KeptInterval). k.channel ≡ c.args.ch → k.start ≤ c.args.«at» → c.args.«at» < k.stop → x < k.stop) (take i ks) one (c.loop-interval.invariant.1 x b.0) (c.stop_of.ensures.stop x b.1)),
    )

pub returns-clause-least : goal.returns-clause-least
returns-clause-least c = λ x before.
    subst (λ ks. All (λ (k : KeptInterval). k.channel ≡ c.args.ch → k.start ≤ c.args.«at» → c.args.«at» < k.stop → x < k.stop) ks) (take_all c.loop-interval.interval-index c.args.kept.now c.loop-interval-test.false) (c.loop-interval.invariant.1 x before)
