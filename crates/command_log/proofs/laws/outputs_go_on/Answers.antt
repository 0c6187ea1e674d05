use Rattle.command_log.proofs.Runs.{values_length, outputs_begin, outputs_first}
use Rattle.command_log.proofs.laws.outputs_go_on.Goals as goal

pub returns-clause-length : goal.returns-clause-length
returns-clause-length c = values_length

pub returns-clause-begin : goal.returns-clause-begin
returns-clause-begin c = outputs_begin

pub returns-clause-first : goal.returns-clause-first
returns-clause-first c = outputs_first
