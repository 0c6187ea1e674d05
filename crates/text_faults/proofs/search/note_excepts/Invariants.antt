use Rattle.std.proofs.Common.{◌≡◌, ◌++◌, take, map}
use Rattle.toml.specs.View.{view}
use Rattle.text_faults.specs.Faults.{except_faults, numbered}
use Rattle.text_faults.proofs.search.note_excepts.Given as goal

abbrev pub invariant-loop-i : goal.invariant-loop-i
invariant-loop-i l = l.faults.items ≡ l.fn.faults.items ++ numbered (except_faults l.event) 0 (map view (take l.i l.items))
