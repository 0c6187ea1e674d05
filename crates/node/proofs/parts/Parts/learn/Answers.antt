use Rattle.std.proofs.Common.{◌≡◌, refl, ap, subst, sym, Some}
use Rattle.acceptor.specs.Content.{after_write}
use Rattle.acceptor.specs.Content.Write.{Learns}
use Rattle.node.specs.Learned.{Learned}
use Rattle.node.specs.Sched.{Stands, Stops, view_over}
use Rattle.node.specs.Step.{learns}
use Rattle.node.specs.View.Standing.{Running}
use Rattle.node.proofs.Leading.{honest_before}
use Rattle.node.proofs.Learning.{learn_fails}
use Rattle.node.proofs.parts.Parts.learn.Goals as goal

pub returns-in-Ok-clause-done : goal.returns-in-Ok-clause-done
returns-in-Ok-clause-done g c honest content holds =
    let old = c.args.self.now in
    let new = record old { records = c.learn.new.records; knowledge = c.learn.new.self } in
    let o = learns (view_over old content) c.args.place c.args.value in
    let now = after_write content (Some (Learns c.args.place c.args.value)) in
    let same : o.view ≡ view_over new now = ap (λ (l : Learned). record (view_over new now) { tally = l.tally; cursor = l.cursor }) (sym c.in-Ok.ensures.learned) in
    (Running o.view, (o, refl, c.new-letters.ensures.items, refl), subst (λ v. Stands g.R.Records.may_find new (Running v)) (sym same) (c.requires.up, refl, c.in-Ok.ensures.ok honest content holds))

pub returns-clause-done : goal.returns-clause-done
returns-clause-done g c honest content holds =
    let old = c.args.self.now in
    let before = honest_before g.R.Records.is_honest record old { records = c.learn.new.records; knowledge = c.learn.new.self } c.in-Err.fault c.stop.new.self c.stop.ensures.stops honest in
    let stops : Stops record old { records = c.learn.new.records } c.in-Err.fault c.stop.new.self = subst (λ (k : Learned). Stops record old { records = c.learn.new.records; knowledge = k } c.in-Err.fault c.stop.new.self) c.in-Err.ensures.unchanged c.stop.ensures.stops in
    rw c.stop.ensures.same (learn_fails g.R.Records.may_find old c.requires.up content holds c.args.place c.args.value c.learn.new.records c.in-Err.fault c.stop.new.self
    c.in-Err.ensures.stops (c.in-Err.ensures.harmless before) (c.in-Err.ensures.doubt before content holds) stops)
