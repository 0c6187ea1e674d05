use Rattle.std.proofs.Common.{refl, arith}
use Rattle.upsched_c.proofs.Bodies.{body_count}
use Rattle.upsched_c.proofs.codec.without_memory.Goals as goal

pub returns-then-room-wanted : goal.returns-then-room-wanted
returns-then-room-wanted c = λ body is. let count = body_count c.args.bytes.now body is in (omega (arith, count), omega (arith, count))

pub returns : goal.returns
returns c = λ body is. let count = body_count c.args.bytes.now body is in (omega (arith, count), refl)
