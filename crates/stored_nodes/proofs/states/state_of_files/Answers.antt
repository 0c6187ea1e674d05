use Rattle.stored_nodes.proofs.Told.{told_so, told_unusable}
use Rattle.stored_nodes.specs.States.{IsToldLost}
use Rattle.stored_nodes.specs.declared.start.FileFault.TheVariants.{Failed}
use Rattle.stored_nodes.proofs.states.state_of_files.Goals as goal

pub returns-clause-unusable : goal.returns-clause-unusable
returns-clause-unusable g c = λ unusable. told_unusable Failed c.state_told.result c.told_of.result (c.told_of.ensures.unusable unusable) c.state_told.ensures.state c.state_told.ensures.memory

pub returns-clause-lost : goal.returns-clause-lost
returns-clause-lost g c = λ usable loss lost clean. told_so (IsToldLost loss) c.state_told.result c.told_of.result (c.told_of.ensures.lost usable loss lost clean) c.state_told.ensures.state
