use Rattle.std.proofs.Common.{List}
use Rattle.network_script.specs.Seats.{AreStandings}
use Rattle.node.specs.View.{Standing}
use Rattle.upsched_draw.proofs.Seen.{Most}
use Rattle.upsched_draw.proofs.learned.most_learned.Given as goal

abbrev pub invariant-loop-seat : goal.invariant-loop-seat
invariant-loop-seat g l = (nodes : List Standing) → AreStandings l.seats nodes → Most nodes l.seat-index l.most.items
