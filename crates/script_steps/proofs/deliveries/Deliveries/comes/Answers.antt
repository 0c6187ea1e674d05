use Rattle.std.proofs.Common.{rules, ◌<◌, length, refl, ap, ◌∙◌}
use Rattle.script_steps.specs.Came.{comes}
use Rattle.script_steps.specs.declared.kept.Sent.{Sent}
use Rattle.script_steps.proofs.Finding.{came_view, kept_came}
use Rattle.script_steps.proofs.Listed.{listed_set}
use Rattle.script_steps.proofs.deliveries.Deliveries.comes.Goals as goal

pub invariant_of-self-inside-then-i-len : goal.invariant_of-self-inside-then-i-len
invariant_of-self-inside-then-i-len c =
    let within : c.args.i < length c.self.inside.sent.items = search rules in (
      kept_came c.self.inside.sent.items c.self.inside.came.items _ c.self.inside.passed.items c.args.i _ within refl c.in_ok-push.ensures.items c.self.inside.kept,
      (listed_set c.self.inside.sent.items c.self.inside.came.items _ c.self.inside.waiting.items c.args.i c.self.inside.counted c.self.inside.taken _ c.in_ok-push.ensures.items c.self.inside.listed, tt),
    )

pub returns-in_ok-push-clause-ok : goal.returns-in_ok-push-clause-ok
returns-in_ok-push-clause-ok c =
    let within : c.args.i < length c.self.inside.sent.items = search rules in
    came_view c.self.inside.sent.items c.self.inside.came.items _ c.args.i _ c.index_mut.result.now within (ap (λ (s : Sent). s.about) c.index_mut.ensures.value) c.in_ok-push.ensures.items
    ∙ ap (comes c.args.i) c.self.view_is
