use Rattle.std.proofs.Common.{◌≡◌, ◌∙◌, ◌++◌, ℕ, List, [], refl, subst, arith}
use Rattle.ballots.specs.declared.letters.Letter.{Letter}
use Rattle.script_steps.specs.declared.entry.Entry.TheVariants.{All}
use Rattle.watched_runs.specs.Steps.{AreRounds, after, begun}
use Rattle.watched_runs.proofs.Followed.{goes_on_still, goes_on_twice, next_round}
use Rattle.watched_runs.proofs.stepping.note_all.Goals as goal

pub loop-round-init : goal.loop-round-init
loop-round-init g c = record {
  within = omega arith;
  honesty = λ honest. honest;
  members = refl;
  run = λ honest members w0 w rows stands gone. (w, [], stands, goes_on_still members w0 w _ rows gone, λ ls. refl);
}

pub loop-round-preserved : goal.loop-round-preserved
loop-round-preserved g c = record {
  within = omega (arith, c.loop-round-test.true, c.rounds-round-end.ensures);
  honesty = λ honest. c.loop-round.invariant.honesty (c.in_ok-note_round.ensures.honesty honest);
  members = c.in_ok-note_round.ensures.members ∙ c.loop-round.invariant.members;
  run = λ honest members w0 w rows stands gone.
      let before = c.loop-round.invariant.run (c.in_ok-note_round.ensures.honesty honest) members w0 w rows stands gone in
      let went = c.in_ok-note_round.ensures.run honest members w0 before.0 _ before.2 before.3.gone in (
        went.0,
        before.1 ++ went.1,
        went.2,
        goes_on_twice members w0 w before.0 went.0 _ _ rows before.1 went.1 before.3 went.3,
        next_round members w0 w before.0 went.0 _ _ rows before.1 went.1 c.args.number (All c.args.all.now) c.loop-round._round before.3 went.3 before.4 went.4,
      );
}

pub returns-clause-run : goal.returns-clause-run
returns-clause-run g c = λ honest members w0 w rows stands gone.
    let all = c.loop-round.invariant.run honest members w0 w rows stands gone in
    let end : c.loop-round._round ≡ c.args.all.now.rounds = omega (arith, c.loop-round.invariant.within, c.loop-round-test.false, c.rounds-round-end.ensures) in
    (all.0, all.1, all.2, all.3, λ ls. subst (λ (k : ℕ). AreRounds (all.0.letters ++ ls) c.args.number (All c.args.all.now) k (after begun rows) all.1) end (all.4 ls))
