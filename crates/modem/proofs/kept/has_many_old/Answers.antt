use Rattle.std.proofs.Common.{map, length, arith}
use Rattle.std.proofs.lemmas.Bool.{leb-false}
use Rattle.std.proofs.lemmas.List.{length-map}
use Rattle.modem.specs.KeptIntervals.{kept_interval}
use Rattle.modem.specs.LetsGo.{old_intervals}
use Rattle.modem.proofs.Old.{few_old, few_of}
use Rattle.modem.proofs.kept.has_many_old.Goals as goal

pub returns-then-old-gt0 : goal.returns-then-old-gt0
returns-then-old-gt0 c = λ not_many.
    let ks = c.args.kept.now in
    let high = rw c.saturating_sub.ensures at c.count_before-until.ensures.from in
    let few = few_old ks c.args.ch c.args.clock c.count_before.result c.count_before-until.result c.count_before.ensures high in
    let old = c.saturating_sub-old.ensures in
    rw (length-map ks kept_interval) (few_of (length (old_intervals c.args.ch c.args.clock (map kept_interval ks))) c.saturating_sub-old.result (length ks) c.args.channels (omega (arith, few, old)) (λ some. leb-false _ _ not_many))

pub returns-else-old-gt0 : goal.returns-else-old-gt0
returns-else-old-gt0 c = λ _.
    let ks = c.args.kept.now in
    let high = rw c.saturating_sub.ensures at c.count_before-until.ensures.from in
    let few = few_old ks c.args.ch c.args.clock c.count_before.result c.count_before-until.result c.count_before.ensures high in
    let old = c.saturating_sub-old.ensures in
    let none = c.if-old-gt0.false in
    rw (length-map ks kept_interval) (few_of (length (old_intervals c.args.ch c.args.clock (map kept_interval ks))) c.saturating_sub-old.result (length ks) c.args.channels (omega (arith, few, old)) (λ some. absurd (omega arith)))
