use Rattle.host_lives.proofs.Batched.{beginnings, kept_go_on, kept_lines, kept_lives}
use Rattle.host_lives.proofs.laws.kept_lines_are_lives.Goals as goal

pub returns : goal.returns
returns c = record { done = kept_lines; lives = kept_lives; on = kept_go_on; beginnings = beginnings }
