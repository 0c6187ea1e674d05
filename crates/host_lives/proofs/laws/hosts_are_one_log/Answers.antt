use Rattle.host_lives.proofs.Once.{once}
use Rattle.host_lives.proofs.Whole.{hosts_are_one}
use Rattle.host_lives.proofs.laws.hosts_are_one_log.Goals as goal

pub returns : goal.returns
returns c = record {
  lives = hosts_are_one c.epochs_follow_one_log.ensures;
  once = once (hosts_are_one c.epochs_follow_one_log.ensures);
}
