use Rattle.std.proofs.Common.{List, [], map, sym, subst, refl, arith}
use Rattle.ballots.specs.Members.{member_count}
use Rattle.modem.specs.State.{State}
use Rattle.seats.proofs.Callers.{new_are}
use Rattle.node_worker.specs.Legal.{IsSound, outputs_of}
use Rattle.node_worker.specs.Places.{IsPlaceOf}
use Rattle.node_worker.specs.Runs.{HaveListened}
use Rattle.node_worker.specs.declared.entry.Done.{Done}
use Rattle.node_worker.proofs.Plants.{none_legal}
use Rattle.node_worker.proofs.plant.Plant.new.Goals as goal

pub invariant_of-result : goal.invariant_of-result
invariant_of-result g c =
    let ids = map (λ (v : State). v.id) c.args.modems.items in
    let P : List Done → Type 0 = λ ds. IsSound (member_count c.args.members) ds in
    let Q : List Done → Type 0 = λ ds. HaveListened ids (outputs_of ds) c.args.modems.items [] in (
      omega (arith, c.in_ok-records.ensures.exact),
      (λ trusted. subst P (sym c.in_ok-records.ensures.items) (none_legal (member_count c.args.members))),
      (ids, [], subst Q (sym c.in_ok-records.ensures.items) (record { events = []; answers = []; receivers = _; listened = refl; hold = new_are c.args.modems.items c.requires; sends = refl })),
      subst (λ (ds : List Done). IsPlaceOf ds 0 0) (sym c.in_ok-records.ensures.items) (omega arith, refl),
    )
