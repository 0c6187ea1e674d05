use Rattle.std.proofs.Common.{arith}
use Rattle.node_lines.specs.declared.fault.LineFault.TheVariants as fault
use Rattle.node_lines.proofs.Consumed.{longer, refused}
use Rattle.node_lines.proofs.input.next_line_within.Goals as goal

pub returns-then-is_err : goal.returns-then-is_err
returns-then-is_err g c =
    refused c.args.most _ _ _ _ c.loop.line.items c.in-Some.byte fault.OutOfMemory c.refuse.result c.loop.invariant.line c.in-Some.byte-test.1 c.loop.invariant.read (rw c.in-Some.is at c.in_ok-next_byte.ensures)
    (λ rest. omega (arith, longer c.loop.line.items rest c.in-Some.byte)) c.refuse.ensures

pub returns-in-Some-2 : goal.returns-in-Some-2
returns-in-Some-2 g c =
    refused c.args.most _ _ _ _ c.loop.line.items c.in-Some-2.field-0 fault.TooLong c.refuse-in-Some-2.result c.loop.invariant.line c.in-Some-2.field-0-test.1 c.loop.invariant.read
    (rw c.in-Some-2.is at c.in_ok-next_byte-2.ensures) (λ rest. omega (arith, longer c.loop.line.items rest c.in-Some-2.field-0)) c.refuse-in-Some-2.ensures
