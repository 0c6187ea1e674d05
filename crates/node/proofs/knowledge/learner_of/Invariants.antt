use Rattle.std.proofs.Common.{◌≡◌, []}
use Rattle.learner.specs.Tally.{no_tally}
use Rattle.command_log.specs.View.{AreRows}
use Rattle.node.proofs.Reading.{take_in}
use Rattle.node.proofs.knowledge.learner_of.Given as goal

abbrev pub invariant-loop-place : goal.invariant-loop-place
invariant-loop-place l = (take_in l.learner l.place-iterator.rest.items ≡ take_in no_tally l.fn.rows.items) × AreRows 1 l.learner.learned × (l.learner.counted ≡ [])
