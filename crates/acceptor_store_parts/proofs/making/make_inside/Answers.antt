use Rattle.std.proofs.Common.{None, sym, subst, arith}
use Rattle.acceptor_store_parts.proofs.Words.{HasCleanDisk, state, HoldsFor}
use Rattle.acceptor_store_parts.proofs.Makes.{inside_then, made_after}
use Rattle.acceptor_store_parts.proofs.making.make_inside.Goals as goal

pub returns-clause-made : goal.returns-clause-made
returns-clause-made g c clean inside =
    let clean₃ : HasCleanDisk (state g.S.Store c.execute-3.new.self.conn.now) = omega (arith, c.execute-4.ensures.survives.clean, clean) in
    let clean₂ : HasCleanDisk (state g.S.Store c.execute-2.new.self.conn.now) = omega (arith, c.execute-3.ensures.survives.clean, clean₃) in
    let clean₁ : HasCleanDisk (state g.S.Store c.execute.new.self.conn.now) = omega (arith, c.execute-2.ensures.survives.clean, clean₂) in
    let ran₁ = c.in_ok-execute.ensures.runs clean₁ inside in
    let ran₂ = c.in_ok-execute-2.ensures.runs clean₂ ran₁.1.mode in
    let ran₃ = c.in_ok-execute-3.ensures.runs clean₃ ran₂.1.mode in
    let ran₄ = c.in_ok-execute-4.ensures.runs clean ran₃.1.mode in
    (ran₄.1.mode, λ x was. (subst (HoldsFor None (state g.S.Store c.execute-4.new.self.conn.now).now) (sym was.1) (made_after (state g.S.Store c.args.tx.now.conn.now) (state g.S.Store c.execute.new.self.conn.now) (state g.S.Store c.execute-2.new.self.conn.now) (state g.S.Store c.execute-3.new.self.conn.now) (state g.S.Store c.execute-4.new.self.conn.now) c.in_ok-execute.field-0 c.in_ok-execute-2.field-0 c.in_ok-execute-3.field-0 c.in_ok-execute-4.field-0 was.0 ran₁.0 ran₂.0 ran₃.0 ran₄.0), tt))

pub returns-clause-survives : goal.returns-clause-survives
returns-clause-survives g c = inside_then (inside_then (inside_then c.execute.ensures.survives c.execute-2.ensures.survives) c.execute-3.ensures.survives) c.execute-4.ensures.survives
