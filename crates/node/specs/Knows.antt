-- What a node's knowledge stands for, and what is always true of it.
use Rattle.command_log.specs.View.{AreRows}
use Rattle.node.specs.Learned.{Learned, IsPart, AreLearned}
use Rattle.node.specs.declared.knowledge.Knowledge.TheInside.{Inside}

abbrev pub learned_of : Inside → Learned
learned_of k = record { tally = k.learner; cursor = k.release }

-- values stand at places of the log, the log has none but these, and they go as far without a gap as was told
pub record IsKept (k : Inside) : Type 0 where
  pub rows : AreRows 1 k.learner.learned
  pub part : IsPart k.log.learned k.learner.learned
  pub told : AreLearned k.learner.learned k.prefix
