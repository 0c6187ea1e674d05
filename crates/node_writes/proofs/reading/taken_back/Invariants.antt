use Rattle.std.proofs.Common.{take}
use Rattle.acceptor.specs.Content.{no_content}
use Rattle.node_writes.specs.Writes.{LeadTo}
use Rattle.node_writes.proofs.reading.taken_back.Given as goal

abbrev pub invariant-loop-bytes : goal.invariant-loop-bytes
invariant-loop-bytes l = LeadTo l.id (take l.bytes-index l.writes) no_content l.records
