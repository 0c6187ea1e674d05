use Rattle.std.proofs.Common.{arith}
use Rattle.acceptor_store_parts.proofs.Words.{HasCleanDisk, state}
use Rattle.acceptor_store_parts.proofs.Makes.{inside_then, owned_after}
use Rattle.acceptor_store_parts.proofs.making.own_inside.Goals as goal

pub returns-clause-made : goal.returns-clause-made
returns-clause-made g c clean inside =
    let clean₃ : HasCleanDisk (state g.S.Store c.put_count.new.tx.conn.now) = omega (arith, c.execute-3.ensures.survives.clean, clean) in
    let clean₂ : HasCleanDisk (state g.S.Store c.execute-2.new.self.conn.now) = omega (arith, c.put_count.ensures.survives.clean, clean₃) in
    let clean₁ : HasCleanDisk (state g.S.Store c.execute.new.self.conn.now) = omega (arith, c.execute-2.ensures.survives.clean, clean₂) in
    let ran₁ = c.in_ok-execute.ensures.runs clean₁ inside in
    let ran₂ = c.in_ok-execute-2.ensures.runs clean₂ ran₁.1.mode in
    let row = rw c.bytes_of-bytes.ensures at ran₂.0 in
    let put = c.in_ok-put_count.ensures.put clean₃ ran₂.1.mode in
    let ran₃ = c.in_ok-execute-3.ensures.runs clean put.0 in
    (ran₃.1.mode, λ x was. owned_after c.args.owner (state g.S.Store c.args.tx.now.conn.now) (state g.S.Store c.execute.new.self.conn.now) (state g.S.Store c.execute-2.new.self.conn.now) (state g.S.Store c.put_count.new.tx.conn.now) (state g.S.Store c.execute-3.new.self.conn.now) x c.in_ok-execute.field-0 c.in_ok-execute-2.field-0 c.in_ok-execute-3.field-0 was.0 was.1 ran₁.0 row put ran₃.0)

pub returns-clause-survives : goal.returns-clause-survives
returns-clause-survives g c = inside_then (inside_then (inside_then c.execute.ensures.survives c.execute-2.ensures.survives) c.put_count.ensures.survives) c.execute-3.ensures.survives
