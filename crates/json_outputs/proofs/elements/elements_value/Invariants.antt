use Rattle.std.proofs.Common.{◌≡◌, ◌++◌, false, map, drop}
use Rattle.serde_json.specs.View.{view}
use Rattle.json_outputs.specs.Elements.{elements_from}
use Rattle.json_outputs.proofs.elements.elements_value.Given as goal

abbrev pub invariant-loop-i : goal.invariant-loop-i
invariant-loop-i l = map view l.list.items ++ elements_from l.behind (drop l.i l.elements) ≡ elements_from false l.elements
