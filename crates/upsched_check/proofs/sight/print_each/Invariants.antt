use Rattle.std.proofs.Common.{take, flat_map}
use Rattle.std.specs.Io.KnownBytes.{Appends}
use Rattle.upsched_check.specs.Reports.{fault_line}
use Rattle.upsched_check.proofs.sight.print_each.Given as goal

abbrev pub invariant-loop-fault : goal.invariant-loop-fault
invariant-loop-fault g l =
    Appends (g.O.Write.contents l.initial.output) (g.O.Write.contents l.output) (flat_map (fault_line l.path) (take l.fault-index l.faults))
