use Rattle.std.proofs.Common.{◌∙◌, List, [], ◌∷◌, ap, map, refl, sym, subst}
use Rattle.std.specs.List.{AllZip}
use Rattle.ballots.specs.declared.letters.Letter.{Letter}
use Rattle.script_steps.specs.Names.{about_of}
use Rattle.script_steps.specs.Plain.{plain}
use Rattle.world_events.specs.declared.event.Event.{Event}
use Rattle.watched_runs.specs.Steps.{IsOf}
use Rattle.watched_runs.proofs.Followed.{gone_same}
use Rattle.watched_runs.proofs.stepping.note_step.Goals as goal

pub returns-clause-run : goal.returns-clause-run
returns-clause-run g c = λ honest members w0 w rows stands gone.
    let letters = c.letters.ensures.written w stands in
    let kept = gone_same members w0 w c.args.course.now _ rows refl refl c.in_ok-event.ensures.same gone in
    let went = c.in_ok-note_event.ensures.run honest members w0 w rows stands kept in
    let is = c.in_ok-event.ensures.plain (gone.sent ∙ ap (map about_of) (sym letters)) ∙ ap (λ (ls : List Letter). plain c.args.step ls c.args.course.now.deliveries.came) letters in
    (went.0, went.1, went.2, went.3, subst (λ (e : Event). AllZip (IsOf c.args.number) (e ∷ []) went.1) is went.4)
