use Rattle.std.proofs.Common.{[], ◌∷◌, ◌++◌}
use Rattle.node_lines.proofs.Consumed.{consumes-then, line_more}
use Rattle.node_lines.proofs.input.skip_rest.Goals as goal

pub loop-preserved : goal.loop-preserved
loop-preserved g c =
    let read = c.loop.invariant in
    let byte = c.in-Some.field-0 in
    (read.0 ++ byte ∷ [], line_more read.0 byte read.1 c.in-Some.field-0-test.1, consumes-then _ _ _ read.0 (byte ∷ []) read.2 (rw c.in-Some.is at c.in_ok-next_byte.ensures))
