use Rattle.std.proofs.Common.{◌++◌, List, subst, sym}
use Rattle.ballots.specs.declared.letters.Letter.{Letter}
use Rattle.script_steps.specs.Plain.{rounds_of}
use Rattle.script_steps.specs.declared.entry.Entry.{Entry}
use Rattle.script_steps.specs.declared.entry.Entry.TheVariants.{One}
use Rattle.watched_runs.specs.Steps.{AreRounds, after, begun}
use Rattle.watched_runs.proofs.Followed.{first_round}
use Rattle.watched_runs.proofs.stepping.note_rounds.Goals as goal

pub returns-in_ok-note_step-in-One-clause-run : goal.returns-in_ok-note_step-in-One-clause-run
returns-in_ok-note_step-in-One-clause-run g c = λ honest members w0 w rows stands gone.
    let went = c.in_ok-note_step-in-One.ensures.run honest members w0 w rows stands gone in
    let round = first_round members w0 w went.0 c.args.course.now _ rows went.1 c.args.number (One c.in-One.step) gone went.3 went.4 in (
      went.0,
      went.1,
      went.2,
      went.3,
      subst (λ (e : Entry). (ls : List Letter) → AreRounds (went.0.letters ++ ls) c.args.number e (rounds_of e) (after begun rows) went.1) (sym c.in-One.is) round,
    )
