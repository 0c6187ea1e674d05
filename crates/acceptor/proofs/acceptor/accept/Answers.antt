use Rattle.std.proofs.Common.{arith, ◌≤◌, inl, inr, refl, sym, ◌∙◌, Some, None}
use Rattle.ballots.specs.Rows.{at}
use Rattle.acceptor.specs.Answers.{IsNewVote, IsOfBallot, MayHaveVoted}
use Rattle.acceptor.specs.Content.{Content, promised}
use Rattle.acceptor.specs.Content.Write.{Votes}
use Rattle.acceptor.specs.Found.{Holds}
use Rattle.acceptor.proofs.Certain.{still_holds, at_want, on_err}
use Rattle.acceptor.proofs.acceptor.accept.Goals as goal

pub returns-in-Some-clause-ok : goal.returns-in-Some-clause-ok
returns-in-Some-clause-ok g c honest d holds =
    let read = c.in_ok-promised.ensures.value honest d holds in
    let some = c.in-Some.ensures.some in
    (None, (omega (arith, some.0, some.1, read), some.1 ∙ read, refl), still_holds _ _ d (c.in_ok-promised.ensures.kept honest) holds)

pub returns-in-Some-value_for-clause-ok : goal.returns-in-Some-value_for-clause-ok
returns-in-Some-value_for-clause-ok g c honest d holds =
    let first = c.vote.ensures.trust.honest honest in
    let read = c.in_ok-promised.ensures.value first d holds in
    let low : promised d ≤ c.args.ballot = rw read at c.in_default.ensures.none in
    let mid = still_holds _ _ d (c.in_ok-promised.ensures.kept first) holds in
    let found = c.in_ok-vote.ensures.value honest d mid in
    (None, inl (low, sym found ∙ c.in-Some-value_for.ensures.some, refl), still_holds _ _ d (c.in_ok-vote.ensures.kept honest) mid)

pub returns-in_err-vote_now-clause-doubt : goal.returns-in_err-vote_now-clause-doubt
returns-in_err-vote_now-clause-doubt g c honest =
    let may = g.R.Records.may_find c.vote_now.new.records in
    let all : (d : Content) → Holds (g.R.Records.may_find c.args.records.now) d → MayHaveVoted d c.args.ballot c.args.place c.args.value may = λ d holds.
    let before = c.vote_now.ensures.trust.honest honest in
    let first = c.vote.ensures.trust.honest before in
    let read = c.in_ok-promised.ensures.value first d holds in
    let low : promised d ≤ c.args.ballot = rw read at c.in_default.ensures.none in
    let mid = still_holds _ _ d (c.in_ok-promised.ensures.kept first) holds in
    let found = c.in_ok-vote.ensures.value before d mid in
    let none : IsOfBallot (at d.votes c.args.place) c.args.ballot → ⊥ = λ voted. c.in_default-value_for.ensures.none (rw found voted) in
    inr ((low, none), c.vote_now.ensures.doubt honest d (still_holds _ _ d (c.in_ok-vote.ensures.kept before) mid)) in
    on_err _ all

pub returns-clause-ok : goal.returns-clause-ok
returns-clause-ok g c honest d holds =
    let before = c.vote_now.ensures.trust.honest honest in
    let first = c.vote.ensures.trust.honest before in
    let read = c.in_ok-promised.ensures.value first d holds in
    let low : promised d ≤ c.args.ballot = rw read at c.in_default.ensures.none in
    let mid = still_holds _ _ d (c.in_ok-promised.ensures.kept first) holds in
    let found = c.in_ok-vote.ensures.value before d mid in
    let none : IsOfBallot (at d.votes c.args.place) c.args.ballot → ⊥ = λ voted. c.in_default-value_for.ensures.none (rw found voted) in
    let later = still_holds _ _ d (c.in_ok-vote.ensures.kept before) mid in
    (Some (Votes c.args.place record { ballot = c.args.ballot; value = c.args.value }), inr ((low, none), c.in_ok-vote_now.ensures.told, refl), c.in_ok-vote_now.ensures.ok honest d later)

pub returns-in_err-vote_now-clause-memory : goal.returns-in_err-vote_now-clause-memory
returns-in_err-vote_now-clause-memory g c honest =
    let all : (d : Content) → Holds (g.R.Records.may_find c.args.records.now) d → IsNewVote d c.args.ballot c.args.place = λ d holds.
    let before = c.vote_now.ensures.trust.honest honest in
    let first = c.vote.ensures.trust.honest before in
    let read = c.in_ok-promised.ensures.value first d holds in
    let low : promised d ≤ c.args.ballot = rw read at c.in_default.ensures.none in
    let mid = still_holds _ _ d (c.in_ok-promised.ensures.kept first) holds in
    let found = c.in_ok-vote.ensures.value before d mid in
    (low, λ voted. c.in_default-value_for.ensures.none (rw found voted)) in
    at_want _ _ _ all
