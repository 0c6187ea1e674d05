use Rattle.std.proofs.Common.{◌≡◌, ◌++◌, take, map}
use Rattle.toml.specs.View.{view}
use Rattle.text_faults.specs.Faults.{numbered}
use Rattle.text_faults.specs.Unread.{except_unread, key_there}
use Rattle.text_faults.proofs.unread.note_excepts.Given as goal

abbrev pub invariant-loop-i : goal.invariant-loop-i
invariant-loop-i l =
    map key_there l.unread.items ≡ map key_there l.fn.unread.items ++ numbered (except_unread l.event) 0 (map view (take l.i l.items))
