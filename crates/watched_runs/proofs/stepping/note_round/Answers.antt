use Rattle.std.proofs.Common.{◌∙◌, List, [], ap, map, refl, sym}
use Rattle.ballots.specs.declared.letters.Letter.{Letter}
use Rattle.std.proofs.lemmas.List.{nil_from_length}
use Rattle.script_steps.specs.declared.name.Name.{Name}
use Rattle.script_steps.specs.Names.{about_of}
use Rattle.script_steps.specs.Plain.{waiting_but}
use Rattle.watched_runs.proofs.Followed.{all_delivered, goes_on_still, goes_on_twice, gone_same, next_delivery}
use Rattle.watched_runs.proofs.stepping.note_round.Goals as goal

pub loop-i-init : goal.loop-i-init
loop-i-init g c = record {
  honesty = λ honest. honest;
  members = refl;
  run = λ honest members w0 w rows stands gone.
      let letters = c.letters.ensures.written w stands in
      let numbers = c.in_ok-numbers.ensures.waiting (gone.sent ∙ ap (map about_of) (sym letters))
      ∙ ap (λ (names : List Name). waiting_but names c.letters.result.now c.args.course.now.deliveries.came) c.except.ensures
      ∙ ap (λ (ls : List Letter). waiting_but c.args.all.now.except ls c.args.course.now.deliveries.came) letters in
      let kept = gone_same members w0 w c.args.course.now _ rows refl refl c.in_ok-numbers.ensures.same gone in
      (w, [], [], c.into_iter-i-iterator.ensures.into_iter_gives.0 ∙ numbers, stands, goes_on_still members w0 w _ rows kept, tt);
}

pub loop-i-preserved : goal.loop-i-preserved
loop-i-preserved g c = record {
  honesty = λ honest. c.loop-i.invariant.honesty (c.in_ok-note_event.ensures.honesty honest);
  members = c.in_ok-note_event.ensures.members ∙ c.loop-i.invariant.members;
  run = λ honest members w0 w rows stands gone.
      let before = c.loop-i.invariant.run (c.in_ok-note_event.ensures.honesty honest) members w0 w rows stands gone in
      let went = c.in_ok-note_event.ensures.run honest members w0 before.0 _ before.4 before.5.gone in
      let next = next_delivery c.args.number before.1 _ _ _ c.in-Some.i before.2 went.1 before.3 c.in-Some.ensures.steps.0 before.6 went.4 in
      (went.0, _, _, next.0, went.2, goes_on_twice members w0 w before.0 went.0 _ _ rows before.2 went.1 before.5 went.3, next.1);
}

pub returns-clause-run : goal.returns-clause-run
returns-clause-run g c = λ honest members w0 w rows stands gone.
    let all = c.loop-i.invariant.run honest members w0 w rows stands gone in
    (all.0, all.2, all.4, all.5, all_delivered c.args.number all.1 _ _ all.2 all.3 (nil_from_length _ (sym c.loop-i.i-iterator.rest.ok.0 ∙ c.in-None.ensures.steps.0)) all.6)
