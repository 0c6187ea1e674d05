use Rattle.std.proofs.Common.{◌≡◌, ◌++◌, map}
use Rattle.toml.specs.Data.{table}
use Rattle.toml.specs.View.{members_view}
use Rattle.text_faults.specs.Unread.{key_there, unread_keys}
use Rattle.text_faults.proofs.unread.note_members.Given as goal

abbrev pub invariant-loop-key : goal.invariant-loop-key
invariant-loop-key l =
    map key_there l.unread.items ++ unread_keys l.told.place l.told.kind l.kinds (table (members_view l.key-iterator))
    ≡ map key_there l.fn.unread.items ++ unread_keys l.told.place l.told.kind l.kinds (table (members_view l.members.entries))
