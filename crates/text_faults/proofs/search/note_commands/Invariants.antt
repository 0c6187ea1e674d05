use Rattle.std.proofs.Common.{◌≡◌, ◌++◌, take, map}
use Rattle.toml.specs.View.{view}
use Rattle.text_faults.specs.Faults.{command_faults, numbered}
use Rattle.text_faults.proofs.search.note_commands.Given as goal

abbrev pub invariant-loop-i : goal.invariant-loop-i
invariant-loop-i l = l.faults.items ≡ l.fn.faults.items ++ numbered command_faults 1 (map view (take l.i l.items))
