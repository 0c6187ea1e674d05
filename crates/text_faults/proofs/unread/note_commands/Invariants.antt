use Rattle.std.proofs.Common.{◌≡◌, ◌++◌, take, map}
use Rattle.toml.specs.View.{view}
use Rattle.text_faults.specs.Faults.{numbered}
use Rattle.text_faults.specs.Unread.{key_there, command_unread}
use Rattle.text_faults.proofs.unread.note_commands.Given as goal

abbrev pub invariant-loop-i : goal.invariant-loop-i
invariant-loop-i l =
    map key_there l.unread.items ≡ map key_there l.fn.unread.items ++ numbered command_unread 1 (map view (take l.i l.items))
