use Rattle.std.proofs.Common.{sym, ◌∙◌}
use Rattle.hosts.proofs.opens.PlainRecordsNewRecords.new_records.Goals as goal

pub returns-clause-holds : goal.returns-clause-holds
returns-clause-holds c = (∣ sym c.new.ensures ∣₁, λ d is. is ∙ c.new.ensures)
