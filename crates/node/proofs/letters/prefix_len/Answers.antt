use Rattle.std.proofs.Common.{◌≡◌, ◌+◌, ◌≤◌, length, None, rules, arith}
use Rattle.std.proofs.lemmas.Grind.{common_steps}
use Rattle.ballots.specs.Rows.{at}
use Rattle.node.specs.View.{values_from}
use Rattle.node.proofs.Prefixes.{learned_without_gap, prefix_ends}
use Rattle.node.proofs.letters.prefix_len.Goals as goal

pub returns-else-contains-clause-below : goal.returns-else-contains-clause-below
returns-else-contains-clause-below c below =
    let none : at c.args.learned.now.entries (c.loop-len.len + 1) ≡ None = first_of (search rules, grind (arith, common_steps)) in
    prefix_ends c.loop-len.len c.args.learned.now.entries c.requires.rows c.loop-len.invariant none

pub returns-after-loop-len-clause-full : goal.returns-after-loop-len-clause-full
returns-after-loop-len-clause-full c at_end =
    let all : c.loop-len.len ≤ length (values_from 1 c.args.learned.now.entries) = learned_without_gap c.loop-len.len c.args.learned.now.entries c.requires.rows c.loop-len.invariant in
    omega (arith, all, at_end)
