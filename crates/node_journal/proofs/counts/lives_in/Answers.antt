use Rattle.std.proofs.Common.{◌≡◌, List, ℕ, cond, drop, nat_eq, subst, arith}
use Rattle.std.specs.List.{starts_with}
use Rattle.node_journal.specs.Counts.{life_begin}
use Rattle.node_journal.proofs.Counting.{lives_step, one_at_most}
use Rattle.node_journal.proofs.Pieces.{rest_of}
use Rattle.node_journal.proofs.counts.lives_in.Goals as goal

pub loop-i-preserved : goal.loop-i-preserved
loop-i-preserved c =
    let rest : List ℕ = drop c.loop-i.i c.args.text.now in
    let step = lives_step c.args.text.now c.loop-i.i c.loop-i-test.true in
    let one : c.lives_at-lives.result ≡ cond (starts_with nat_eq rest life_begin) 1 0 =
    subst (λ (xs : List ℕ). c.lives_at-lives.result ≡ cond (starts_with nat_eq xs life_begin) 1 0) (rest_of c.args.text.now c.loop-i.i) c.lives_at-lives.ensures in
    (omega (arith, step, one, c.loop-i.invariant.0), omega (arith, one, one_at_most (starts_with nat_eq rest life_begin), c.loop-i.invariant.1))
