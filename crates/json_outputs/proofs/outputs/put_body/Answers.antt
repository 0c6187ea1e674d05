use Rattle.serde_json.specs.View.{view}
use Rattle.json_outputs.proofs.Told.{map_told}
use Rattle.json_outputs.proofs.outputs.put_body.Goals as goal

pub returns : goal.returns
returns c = map_told c.put.result (view c.in_ok-elements.elements) c.args.bytes.now _ _ _ c.in_ok-elements.ensures c.in_ok-put_bytes.ensures c.put.ensures.ok
