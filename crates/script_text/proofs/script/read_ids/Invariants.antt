use Rattle.std.proofs.Common.{take, map}
use Rattle.std.specs.List.{AllZip}
use Rattle.toml.specs.View.{view}
use Rattle.script_text.specs.Script.{IsId}
use Rattle.script_text.proofs.script.read_ids.Given as goal

abbrev pub invariant-loop-item : goal.invariant-loop-item
invariant-loop-item l = AllZip IsId (take l.item-index (map view l.items)) l.ids.items
