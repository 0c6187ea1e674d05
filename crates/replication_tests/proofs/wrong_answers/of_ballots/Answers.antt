use Rattle.replication_tests.proofs.WrongAnswers.{next_ballot_is_above}
use Rattle.replication_tests.proofs.wrong_answers.of_ballots.Goals as goal

pub returns : goal.returns
returns c = next_ballot_is_above
