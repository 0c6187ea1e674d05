use Rattle.std.proofs.Common.{drop, length, map, ap, ◌∙◌}
use Rattle.std.proofs.lemmas.Result.{on_ok_weaker}
use Rattle.script_steps.specs.Came.{sends}
use Rattle.script_steps.proofs.Finding.{just_sent, kept_either, sent_view}
use Rattle.script_steps.proofs.Listed.{listed_either}
use Rattle.script_steps.proofs.deliveries.Deliveries.sends.Goals as goal

pub invariant_of-self-inside : goal.invariant_of-self-inside
invariant_of-self-inside c = (
  kept_either c.add_sent.result c.self.inside.sent.items _ c.self.inside.came.items c.self.inside.passed.items (drop (length c.self.inside.sent.items) c.args.letters.now) c.add_sent.ensures.ok c.add_sent.ensures.err c.self.inside.kept,
  (listed_either c.add_sent.result c.self.inside.sent.items (map just_sent (drop (length c.self.inside.sent.items) c.args.letters.now)) _ c.self.inside.came.items c.self.inside.waiting.items c.self.inside.counted c.self.inside.taken c.add_sent.ensures.ok c.add_sent.ensures.err c.self.inside.listed, tt),
)

pub returns-clause-ok : goal.returns-clause-ok
returns-clause-ok c =
    on_ok_weaker c.add_sent.result (λ is. sent_view c.self.inside.sent.items _ c.self.inside.came.items c.args.letters.now is ∙ ap (sends c.args.letters.now) c.self.view_is) c.add_sent.ensures.ok
