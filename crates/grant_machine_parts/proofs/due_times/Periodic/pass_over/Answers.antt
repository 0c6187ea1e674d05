use Rattle.std.proofs.Common.{◌≡◌, ◌+◌, ◌-◌, ap, ◌∙◌, arith}
use Rattle.std.specs.Int.{div_ceil}
use Rattle.grant_machine_parts.specs.Cutting.{due_at}
use Rattle.grant_machine_parts.proofs.Passing.{below_ceil}
use Rattle.grant_machine_parts.proofs.due_times.Periodic.pass_over.Goals as goal

pub returns-clause-passed : goal.returns-clause-passed
returns-clause-passed c = λ j low high.
    let p = c.args.self.now in
    let last = c.due_at.result + c.from.result in
    below_ceil p c.args.i j (c.args.bound - last) c.div_ceil.result c.args.bound c.requires.timely.more
    (c.div_ceil.ensures ∙ ap (λ n. div_ceil (c.args.bound - last) n) c.from-2.ensures) low high
    (let reach : due_at p c.args.i + p.jitter + (c.args.bound - last) ≡ c.args.bound = omega arith in reach)
