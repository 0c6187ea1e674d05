use Rattle.std.proofs.Common.{◌≡◌, Some, refl, sym, ap, ◌∙◌, arith}
use Rattle.grant_machine_parts.specs.Cutting.{Ran, run_flow}
use Rattle.grant_machine_parts.proofs.Passing.{step_on, step_off, begun_run, full_run}
use Rattle.grant_machine_parts.proofs.due_times.Periodic.run.Goals as goal

pub loop-filling-init : goal.loop-filling-init
loop-filling-init c =
    let begun = c.pass_over-i.ensures.reached in
    record {
      span = refl;
      rest = begun_run c.args.filling.now.span c.args.self.now c.args.filling.now.placements c.args.first c.pass_over-i.result c.start.result c.requires.timely.more c.start.ensures c.pass_over-i.ensures.not_below c.pass_over-i.ensures.passed;
      begun = omega arith;
      due = c.pass_over-i.ensures.due;
    }

kept : (c : goal.Then-not-branch) → run_flow c.args.filling.now.span (Some c.args.self.now) c.args.first c.args.filling.now.placements ≡ record { placements = c.place_at.new.filling.placements; index = c.loop-filling.i }
kept c = c.loop-filling.invariant.rest ∙ step_off c.args.filling.now.span c.loop-filling.filling c.args.self.now c.loop-filling.i c.place_at.new.filling.placements _ c.loop-filling.invariant.span c.requires.timely.more (omega arith) c.in_ok-place_at.ensures.goes (c.if-not-branch.true) c.in_ok-place_at.ensures.placed

pub returns-then-not-branch-clause-placed : goal.returns-then-not-branch-clause-placed
returns-then-not-branch-clause-placed c = ap (λ (r : Ran). r.placements) (sym (kept c))

pub returns-then-not-branch-clause-next : goal.returns-then-not-branch-clause-next
returns-then-not-branch-clause-next c = ap (λ (r : Ran). r.index) (sym (kept c))

pub loop-filling-preserved : goal.loop-filling-preserved
loop-filling-preserved c =
    let begun = c.loop-filling.invariant.begun in
    record {
      span = c.place_at.ensures.span ∙ c.loop-filling.invariant.span;
      rest = c.loop-filling.invariant.rest ∙ step_on c.args.filling.now.span c.loop-filling.filling c.args.self.now c.loop-filling.i c.place_at.new.filling.placements _ c.loop-filling.invariant.span c.requires.timely.more (omega arith) c.in_ok-place_at.ensures.goes c.if-not-branch.false c.in_ok-place_at.ensures.placed;
      begun = omega arith;
      due = omega arith;
    }

full : (c : goal.After-pass_over-i-then-is_full) → run_flow c.args.filling.now.span (Some c.args.self.now) c.args.first c.args.filling.now.placements ≡ record { placements = c.loop-filling.filling.placements; index = c.pass_over-i-then-is_full.result }
full c = c.loop-filling.invariant.rest ∙ full_run c.args.filling.now.span c.args.self.now c.loop-filling.filling.placements c.loop-filling.i c.pass_over-i-then-is_full.result c.end-end.result c.is_full-2.result c.requires.timely.more c.end-end.ensures.same c.is_full-2.ensures c.if-is_full.true c.pass_over-i-then-is_full.ensures.not_below c.pass_over-i-then-is_full.ensures.passed c.pass_over-i-then-is_full.ensures.reached

pub returns-then-is_full-clause-placed : goal.returns-then-is_full-clause-placed
returns-then-is_full-clause-placed c = ap (λ (r : Ran). r.placements) (sym (full c))

pub returns-then-is_full-clause-next : goal.returns-then-is_full-clause-next
returns-then-is_full-clause-next c = ap (λ (r : Ran). r.index) (sym (full c))
