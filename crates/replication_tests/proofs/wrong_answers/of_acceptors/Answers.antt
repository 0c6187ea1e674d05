use Rattle.replication_tests.proofs.WrongAnswers.{no_vote_below, no_promise_up_to, higher_is_the_promise}
use Rattle.replication_tests.proofs.WrongAnswers.{answers_are_written}
use Rattle.replication_tests.proofs.wrong_answers.of_acceptors.Goals as goal

pub returns-clause-below : goal.returns-clause-below
returns-clause-below c = no_vote_below

pub returns-clause-promised : goal.returns-clause-promised
returns-clause-promised c = no_promise_up_to

pub returns-clause-higher : goal.returns-clause-higher
returns-clause-higher c = higher_is_the_promise

pub returns-clause-written : goal.returns-clause-written
returns-clause-written c = answers_are_written
