use Rattle.std.proofs.Common.{subst, List}
use Rattle.ballots.specs.Members.{member_count}
use Rattle.seats.specs.Receiver.{Receiver}
use Rattle.seats.specs.Modems.{ModemNext}
use Rattle.seats.specs.Receiving.{AreReceivers}
use Rattle.node_worker.specs.Legal.{outputs_of}
use Rattle.node_worker.specs.Places.{IsPlaceOf}
use Rattle.node_worker.specs.declared.entry.Done.{Done}
use Rattle.node_worker.specs.PlantView.{PlantView}
use Rattle.node_worker.proofs.Played.{modem_listens, modem_sends}
use Rattle.node_worker.proofs.plant.Plant.modem_step.Goals as goal

-- the modems listened on
pub invariant_of-self : goal.invariant_of-self
invariant_of-self g c = (
  c.self.invariant.0,
  c.self.invariant.1,
  modem_listens c.self.inside.records.items c.as_slice.result.now c.self.inside.modems.items c.go_on.new.modems.items c.args.event.now c.go_on.result
      c.as_slice.ensures.value c.self.invariant.2 c.go_on.ensures.next c.go_on.ensures.within,
  subst (λ (ds : List Done). IsPlaceOf ds c.go_on.new.place.record c.go_on.new.place.before) c.as_slice.ensures.value c.go_on.ensures.place,
)

pub returns-clause-next : goal.returns-clause-next
returns-clause-next g c = λ rs hold.
    let P : PlantView → Type 0 = λ p. AreReceivers p.modems rs → (after : List Receiver) × ModemNext rs (outputs_of p.records) c.args.event.now c.go_on.result after × AreReceivers c.go_on.new.modems.items after in
    subst P c.self.view_is
    (λ held.
    let one = c.go_on.ensures.next rs held in
    (one.0, subst (λ ds. ModemNext rs (outputs_of ds) c.args.event.now c.go_on.result one.0) c.as_slice.ensures.value one.1, one.2))
    hold

-- and sent as owners
pub returns-clause-owner : goal.returns-clause-owner
returns-clause-owner g c = λ trusted.
    modem_sends (member_count c.self.inside.members) c.self.inside.records.items c.as_slice.result.now c.self.inside.modems.items c.go_on.new.modems.items c.args.event.now c.go_on.result
    c.as_slice.ensures.value (c.self.invariant.1 trusted) c.self.invariant.2 c.go_on.ensures.next c.go_on.ensures.within

pub returns-clause-sound : goal.returns-clause-sound
returns-clause-sound g c = λ members sound.
    modem_sends members c.self.inside.records.items c.as_slice.result.now c.self.inside.modems.items c.go_on.new.modems.items c.args.event.now c.go_on.result
    c.as_slice.ensures.value sound c.self.invariant.2 c.go_on.ensures.next c.go_on.ensures.within
