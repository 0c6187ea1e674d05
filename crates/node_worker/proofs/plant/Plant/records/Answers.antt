use Rattle.std.proofs.Common.{subst}
use Rattle.ballots.specs.Members.{member_count}
use Rattle.node_worker.specs.PlantView.{PlantView}
use Rattle.node_worker.specs.Legal.{outputs_of}
use Rattle.node_worker.specs.Runs.{AreLegal, Listened}
use Rattle.node_worker.proofs.Played.{sound_is_legal}
use Rattle.node_worker.proofs.plant.Plant.records.Goals as goal

pub returns-clause-legal : goal.returns-clause-legal
returns-clause-legal g c = λ trusted.
    let P : PlantView → Type 0 = λ p. AreLegal p.members p.records p.modems in
    subst P c.self.view_is (sound_is_legal (member_count c.self.inside.members) c.self.inside.records.items c.self.inside.modems.items (c.self.invariant.1 trusted) c.self.invariant.2)

pub returns-clause-listened : goal.returns-clause-listened
returns-clause-listened g c =
    let P : PlantView → Type 0 = λ p. Listened (outputs_of p.records) p.modems in
    subst P c.self.view_is c.self.invariant.2
