use Rattle.network_script.proofs.Whole.{modems_are_named, held_is_owned, owners_are_one, holders_are_one, sent_is_held}
use Rattle.network_script.proofs.Whole.{sent_by_owner}
use Rattle.network_script.proofs.laws.one_owner.Goals as goal

pub returns : goal.returns
returns c = record { named = modems_are_named; held = held_is_owned; owners = owners_are_one; holders = holders_are_one; sent = sent_is_held; by_owner = sent_by_owner }
