use Rattle.std.proofs.Common.{arith}
use Rattle.map_body.proofs.Readings.{spelling_len}
use Rattle.map_body.proofs.numbers.limits.Goals as goal

pub returns-clause-bodies : goal.returns-clause-bodies
returns-clause-bodies c = λ bytes map (reserved, spells, are).
    let len = spelling_len bytes map.head map.elements reserved spells in
    let count = spells.count in
    (count, omega (arith, len.0, count))
