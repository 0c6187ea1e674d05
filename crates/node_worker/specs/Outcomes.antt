-- How a cause ended that a node answered so.
use Rattle.std.specs.Prelude.{◌≡◌}
use Rattle.proposer.specs.declared.fault.NodeFault.TheVariants.{OutOfMemory, StoreRefused, Down}
use Rattle.seats.specs.declared.answer.Answer.{Answer}
use Rattle.seats.specs.declared.answer.Answer.TheVariants as answer
use Rattle.node_worker.specs.declared.acting.Outcome.{Outcome}
use Rattle.node_worker.specs.declared.entry.Ended.{Ended}
use Rattle.node_worker.specs.declared.entry.Ended.TheVariants.{Whole, Fault, Refused, FailedBefore, FailedEither, Lost}

-- how it ended
abbrev pub ended_of : Answer → Ended
ended_of (answer.Refused refusal) = Refused refusal
ended_of answer.Crashed = Lost
ended_of (answer.Fault OutOfMemory) = FailedBefore
ended_of (answer.Fault StoreRefused) = FailedBefore
ended_of (answer.Fault Down) = FailedEither
ended_of (answer.Fault declined) = Fault declined
ended_of whole = Whole

-- the same, told twice
abbrev pub SameOutcome : Outcome → Outcome → Type 0
SameOutcome first second = (second.ended ≡ first.ended) × (second.letters.items ≡ first.letters.items) × (second.outputs.items ≡ first.outputs.items)
