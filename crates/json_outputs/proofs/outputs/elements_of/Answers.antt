use Rattle.json_outputs.proofs.Told.{none_told}
use Rattle.json_outputs.proofs.outputs.elements_of.Goals as goal

pub returns-in-Err : goal.returns-in-Err
returns-in-Err c = none_told c.args.bytes.now c.in-Err.fault c.no_elements.result c.in-Err.ensures.only c.no_elements.ensures
