use Rattle.std.proofs.Common.{arith}
use Rattle.acceptor_store_parts.proofs.Words.{HasCleanDisk, state}
use Rattle.acceptor_store_parts.proofs.Makes.{inside_then, raised_after}
use Rattle.acceptor_store_parts.proofs.making.raise_inside.Goals as goal

pub returns-clause-made : goal.returns-clause-made
returns-clause-made g c clean inside =
    let clean₁ : HasCleanDisk (state g.S.Store c.execute.new.self.conn.now) = omega (arith, c.execute-2.ensures.survives.clean, clean) in
    let ran₁ = c.in_ok-execute.ensures.runs clean₁ inside in
    let ran₂ = c.in_ok-execute-2.ensures.runs clean ran₁.1.mode in
    (ran₂.1.mode, λ x was. (raised_after (state g.S.Store c.args.tx.now.conn.now) (state g.S.Store c.execute.new.self.conn.now) (state g.S.Store c.execute-2.new.self.conn.now) x c.in_ok-execute.field-0 c.in_ok-execute-2.field-0 was.0 was.1 ran₁.0 ran₂.0, tt))

pub returns-clause-survives : goal.returns-clause-survives
returns-clause-survives g c = inside_then c.execute.ensures.survives c.execute-2.ensures.survives
