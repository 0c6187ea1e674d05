use Rattle.std.proofs.Common.{refl}
use Rattle.batched_node.proofs.Noting.{noted_after}
use Rattle.batched_node.proofs.seat.BatchedSeat.obey.Goals as goal

pub returns-clause-noted : goal.returns-clause-noted
returns-clause-noted g c =
    let old = c.args.self.now in
    noted_after old.seat c.obey-acted.new.self c.node.result.now c.node-2.result.now c.node.ensures c.node-2.ensures (λ n. n.parts) (record { stands = λ n s h. h; stood = λ n s h. h; who = λ n. refl; values = λ n. refl; honest = λ n. refl })
    g.W.WriteStore old.noted c.note.new.self c.args.asked.now c.obey-acted.result c.place_of-place.result c.write_of-write.result c.requires.up c.obey-acted.ensures c.place_of-place.ensures c.write_of-write.ensures
    (record { store = c.note.ensures.store; waits = c.note.ensures.waits; ended = c.note.ensures.room c.requires.room }) c.requires.noted
