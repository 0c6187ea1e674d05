-- Why the definitions exclude these answers.
use Rattle.std.proofs.Common.{inl, inr, arith}
use Rattle.replication_tests.specs.WrongAnswers.{NoVoteBelow, NoPromiseUpTo, HigherIsThePromise, AnswersAreWritten}
use Rattle.replication_tests.specs.WrongAnswers.{NextBallotIsAbove}

pub no_vote_below : NoVoteBelow
no_vote_below c b p v told write below h =
    elim h [
      | inl before ↦ omega (arith, below, before.0)
      | inr now ↦ omega (arith, below, now.0.0)
    ]

pub no_promise_up_to : NoPromiseUpTo
no_promise_up_to c b q votes write most h = omega (arith, most, h.0)

pub higher_is_the_promise : HigherIsThePromise
higher_is_the_promise c b p other v write differs h = differs h.1

pub answers_are_written : AnswersAreWritten
answers_are_written c b p v told votes = (
  (λ h. grind (arith, h.2)),
  (λ none h.
      elim h [
        | inl before ↦ grind (arith, none, before.1)
        | inr now ↦ grind (arith, now.2)
      ]),
)

pub next_ballot_is_above : NextBallotIsAbove
next_ballot_is_above limit node b most h = omega (arith, most, h.1)
