use Rattle.std.proofs.Common.{take, flat_map, map}
use Rattle.std.specs.Io.KnownBytes.{Appends}
use Rattle.text_faults.specs.Unread.{key_there}
use Rattle.upsched_check.specs.Reports.{unread_line}
use Rattle.upsched_check.proofs.sight.print_keys.Given as goal

abbrev pub invariant-loop-key : goal.invariant-loop-key
invariant-loop-key g l =
    Appends (g.O.Write.contents l.initial.output) (g.O.Write.contents l.output) (flat_map (unread_line l.path) (map key_there (take l.key-index l.keys)))
