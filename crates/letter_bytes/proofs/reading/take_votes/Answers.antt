use Rattle.std.proofs.Common.{Ok, ap, refl, subst, sym, ◌∙◌}
use Rattle.std.specs.Prelude.{IsOk}
use Rattle.std.proofs.lemmas.Result.{err_from_is_err_and}
use Rattle.letter_bytes.specs.Reading.{votes_in}
use Rattle.letter_bytes.proofs.Loop.{ends, goes_on, is_done}
use Rattle.letter_bytes.proofs.reading.take_votes.Goals as goal

pub returns-in_err-take_vote : goal.returns-in_err-take_vote
returns-in_err-take_vote c =
    let start = c.args.rest.now.now in
    let fault = err_from_is_err_and c.from_residual.result c.from_residual.ensures.1 in
    rw (fault.1, fault.2)
    (ends c.in_err-take_vote.field-0.0 c.loop.votes.items c.args.count c.loop.counter c.loop.rest.now start (votes_in c.args.count start) c.loop-test.true c.loop.invariant.first c.in_err-take_vote.ensures c.loop.invariant.read)

pub loop-preserved : goal.loop-preserved
loop-preserved c = record {
  read = rw c.in_ok-push.ensures.items
      (goes_on c.loop.votes.items c.args.count c.loop.counter c.loop.rest.now c.in_ok-take_vote.field-0 c.take_vote.new.rest.now (votes_in c.args.count c.args.rest.now.now) c.loop-test.true c.in_ok-take_vote.ensures c.loop.invariant.read);
  first = λ _. c.loop.invariant.first (subst IsOk (sym c.in_ok-take_vote.ensures) refl);
}

pub returns : goal.returns
returns c =
    is_done c.loop.votes.items c.args.count c.loop.counter c.loop.rest.now (votes_in c.args.count c.args.rest.now.now) c.loop-test.false c.loop.invariant.read
    ∙ ap (λ rows. Ok (rows, c.loop.rest.now)) (sym c.new.ensures)
