use Rattle.std.proofs.Common.{take}
use Rattle.std.specs.Io.KnownBytes.{Appends}
use Rattle.upsched_audit.specs.Audits.{counts_lines}
use Rattle.upsched_audit.proofs.verdict_line.write_counts.Given as goal

abbrev pub invariant-loop-node : goal.invariant-loop-node
invariant-loop-node g l = Appends (g.O.Write.contents l.initial.output) (g.O.Write.contents l.output) (counts_lines 0 (take l.node l.journals))
