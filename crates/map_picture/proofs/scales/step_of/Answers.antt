use Rattle.std.proofs.Common.{◌∙◌, ap}
use Rattle.map_picture.specs.Scales.{round_step}
use Rattle.map_picture.proofs.scales.step_of.Goals as goal

pub returns-clause-value : goal.returns-clause-value
returns-clause-value c = c.round_step.ensures.value ∙ ap round_step c.part_of.ensures.value
