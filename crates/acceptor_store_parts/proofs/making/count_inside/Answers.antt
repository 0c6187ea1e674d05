use Rattle.std.proofs.Common.{arith}
use Rattle.acceptor_store_parts.proofs.Words.{HasCleanDisk, state}
use Rattle.acceptor_store_parts.proofs.Makes.{inside_then, raised_count}
use Rattle.acceptor_store_parts.proofs.making.count_inside.Goals as goal

pub returns-clause-made : goal.returns-clause-made
returns-clause-made g c clean inside owner =
    let clean₁ : HasCleanDisk (state g.S.Store c.put_count.new.tx.conn.now) = omega (arith, c.execute.ensures.survives.clean, clean) in
    let put = c.in_ok-put_count.ensures.put clean₁ inside in
    let ran = c.in_ok-execute.ensures.runs clean put.0 in
    (ran.1.mode, λ x was. raised_count owner (state g.S.Store c.args.tx.now.conn.now) (state g.S.Store c.put_count.new.tx.conn.now) (state g.S.Store c.execute.new.self.conn.now) x c.in_ok-execute.field-0 was put ran.0)

pub returns-clause-survives : goal.returns-clause-survives
returns-clause-survives g c = inside_then c.put_count.ensures.survives c.execute.ensures.survives
