use Rattle.std.proofs.Common.{take, map}
use Rattle.std.specs.List.{AllZip}
use Rattle.toml.specs.View.{view}
use Rattle.script_text.specs.EntryTable.{MeansEntry}
use Rattle.script_text.proofs.step_script.read_items.Given as goal

abbrev pub invariant-loop-i : goal.invariant-loop-i
invariant-loop-i l = AllZip MeansEntry (take l.i (map view l.items)) l.entries.items
