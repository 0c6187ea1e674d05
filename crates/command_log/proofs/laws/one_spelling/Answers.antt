use Rattle.command_log.proofs.Spelled.{read_back}
use Rattle.command_log.proofs.Forms.{reads_any}
use Rattle.command_log.proofs.laws.one_spelling.Goals as goal

pub returns-clause-spelled : goal.returns-clause-spelled
returns-clause-spelled c = read_back

pub returns-clause-any : goal.returns-clause-any
returns-clause-any c = reads_any
