use Rattle.std.proofs.Common.{◌≡◌, ◌+◌, ◌-◌, ◌≤◌, Some}
use Rattle.grant_machine_parts.specs.Cutting.{due_at, run_flow}
use Rattle.grant_machine_parts.specs.Filling.{last_due}
use Rattle.grant_machine_parts.proofs.due_times.Periodic.run.Given as goal

-- the due times from i on, after those before it
abbrev pub invariant-loop-filling : goal.invariant-loop-filling
invariant-loop-filling l = record {
  span : l.filling.span ≡ l.fn.filling.span;
  rest : run_flow l.fn.filling.span (Some l.self) l.first l.fn.filling.placements ≡ run_flow l.fn.filling.span (Some l.self) l.i l.filling.placements;
  begun : l.fn.filling.span.start ≤ due_at l.self l.i + l.self.jitter;
  due : due_at l.self l.i ≤ last_due;
}

abbrev pub decreases-loop-filling : goal.decreases-loop-filling
decreases-loop-filling l = l.end - l.i
