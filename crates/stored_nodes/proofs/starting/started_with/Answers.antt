use Rattle.std.proofs.Common.{refl}
use Rattle.std.proofs.lemmas.Result.{IfOk-weaker}
use Rattle.node.specs.View.{started}
use Rattle.stored_nodes.proofs.Beside.{held_nothing, holds_itself, ok_weaker, stands_once, starts_over}
use Rattle.stored_nodes.proofs.starting.started_with.Goals as goal

pub begun_with-requires-clause-certain : goal.begun_with-requires-clause-certain
begun_with-requires-clause-certain c = λ _. ∣ (c.args.records, holds_itself c.args.records) ∣₁

pub resumed_with-requires-clause-certain : goal.resumed_with-requires-clause-certain
resumed_with-requires-clause-certain c = λ _. ∣ (c.args.records, holds_itself c.args.records) ∣₁

pub returns-then-is_new-clause-new : goal.returns-then-is_new-clause-new
returns-then-is_new-clause-new c =
    ok_weaker c.begun_with.result (λ nothing _. nothing) (held_nothing c.args.records c.begun_with.result (λ node empty. empty refl) c.begun_with.ensures.empty)

pub returns-then-is_new-clause-over : goal.returns-then-is_new-clause-over
returns-then-is_new-clause-over c =
    starts_over _ _ _ _ _ c.args.records c.begun_with.result (λ _. refl) (held_nothing c.args.records c.begun_with.result (λ node empty. empty refl) c.begun_with.ensures.empty) c.begun_with.ensures.fresh

pub returns-then-is_new-clause-same : goal.returns-then-is_new-clause-same
returns-then-is_new-clause-same c =
    IfOk-weaker c.begun_with.result _ _ (λ node over view at. stands_once node.parts view (started c.args.records) at over) (returns-then-is_new-clause-over c)

pub returns-else-is_new-clause-over : goal.returns-else-is_new-clause-over
returns-else-is_new-clause-over c = IfOk-weaker c.resumed_with.result _ _ (λ node it. (it refl).1 c.args.records (holds_itself c.args.records)) c.resumed_with.ensures.resumed

pub returns-else-is_new-clause-same : goal.returns-else-is_new-clause-same
returns-else-is_new-clause-same c =
    IfOk-weaker c.resumed_with.result _ _ (λ node over view at. stands_once node.parts view (started c.args.records) at over) (returns-else-is_new-clause-over c)
