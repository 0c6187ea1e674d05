use Rattle.std.proofs.Common.{arith, rules}
use Rattle.host_states.proofs.Framing.{no_head, no_line}
use Rattle.host_states.proofs.reading.framed.Goals as goal

pub returns-in_default-behind_line : goal.returns-in_default-behind_line
returns-in_default-behind_line c = λ h spelling. no_line c.args.bytes.now c.in-Some.told.now h spelling (search rules) (search rules)

pub returns-in-None : goal.returns-in-None
returns-in-None c = λ h spelling. no_head c.args.bytes.now c.in-Some.told.now c.in-Some-behind_line.behind.now h spelling (search rules) (search rules) (search rules)
