use Rattle.std.proofs.Common.{take, map}
use Rattle.std.specs.List.{AllZip}
use Rattle.toml.specs.View.{view}
use Rattle.script_text.specs.EventTable.{MeansEvent}
use Rattle.script_text.proofs.script.read_items.Given as goal

abbrev pub invariant-loop-i : goal.invariant-loop-i
invariant-loop-i l = AllZip MeansEvent (take l.i (map view l.items)) l.events.items
