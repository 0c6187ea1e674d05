-- What a failed store answers.
use Rattle.std.specs.Prelude.{Bool, true, false}
use Rattle.proposer.specs.declared.fault.NodeFault.TheVariants.{StoreRefused, Down}
use Rattle.seats.specs.declared.answer.Answer.{Answer}
use Rattle.seats.specs.declared.answer.Answer.TheVariants.{Fault}

-- what a failed store answers: StoreRefused or Down
abbrev pub is_store_fault : Answer → Bool
is_store_fault (Fault StoreRefused) = true
is_store_fault (Fault Down) = true
is_store_fault other = false
