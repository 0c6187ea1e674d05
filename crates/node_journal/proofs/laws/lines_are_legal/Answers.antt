use Rattle.ballots.specs.Members.{member_count}
use Rattle.node_worker.proofs.Played.{sound_alone}
use Rattle.node_journal.proofs.laws.lines_are_legal.Goals as goal

pub returns : goal.returns
returns c = λ members journals records lines. sound_alone (member_count members) records lines.sound
