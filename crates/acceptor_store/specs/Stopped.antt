-- How a call that stopped is told.
use Rattle.acceptor.specs.declared.records.RecordsFault.{RecordsFault}
use Rattle.acceptor.specs.declared.records.RecordsFault.TheVariants as answer
use Rattle.acceptor_store_parts.specs.declared.Stop.{Stop}
use Rattle.acceptor_store_parts.specs.declared.Stop.TheVariants.{Memory, Refused, Down}
use Rattle.acceptor_store.specs.declared.OpenFault.{OpenFault}
use Rattle.acceptor_store.specs.declared.OpenFault.TheVariants as open_fault

-- by a call of records
abbrev pub answer_of : Stop → RecordsFault
answer_of Memory = answer.OutOfMemory
answer_of Refused = answer.Refused
answer_of Down = answer.Broken

-- by an open
abbrev pub fault_of : Stop → OpenFault
fault_of Memory = open_fault.OutOfMemory
fault_of Refused = open_fault.Refused
fault_of Down = open_fault.Broken
