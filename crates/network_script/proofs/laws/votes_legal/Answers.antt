use Rattle.network_script.proofs.Runs.{history_legal, learned_is_chosen}
use Rattle.network_script.proofs.laws.votes_legal.Goals as goal

pub returns : goal.returns
returns c = record { legal = history_legal; learned = learned_is_chosen }
