use Rattle.epochs.proofs.Scheduled.{applies_next, goes_on_from_tables, hands_out_rest, starts_empty}
use Rattle.epochs.proofs.laws.schedulers_follow_values.Goals as goal

pub returns : goal.returns
returns c = record { first = starts_empty; next = applies_next; handed = hands_out_rest; on = goes_on_from_tables }
