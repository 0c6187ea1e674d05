use Rattle.std.proofs.Common.{◌≡◌, ◌∙◌, ◌++◌, ◌+◌, List, [], ◌∷◌, refl, ap, sym, subst, length}
use Rattle.std.proofs.Common.{append_assoc, append-nil}
use Rattle.std.proofs.lemmas.List.{length-append, nil_from_length}
use Rattle.ballots.specs.declared.letters.Letter.{Letter}
use Rattle.script_steps.specs.declared.entry.Entry.{Entry}
use Rattle.watched_runs.specs.Following.{StepsGo}
use Rattle.watched_runs.specs.Marks.{seen_in}
use Rattle.watched_runs.specs.Steps.{MeansPlain, begun}
use Rattle.watched_runs.specs.declared.mark.Stage.{Stage}
use Rattle.watched_runs.proofs.Followed.{all_gone, next_entry, none_gone}
use Rattle.watched_runs.proofs.stepping.note_entries.Goals as goal

pub loop-entry-init : goal.loop-entry-init
loop-entry-init g c = record {
  honesty = λ honest. honest;
  run = λ honest w stands none. (
    w,
    [],
    [],
    c.into_iter-entry-iterator.ensures.into_iter_gives.0,
    ap length c.in_ok-stages.ensures.items,
    none_gone (length w.nodes) w _ refl c.in_ok-with_capacity.ensures.items c.in_ok-with_capacity-2.ensures.items c.new.ensures none,
    λ ls. subst (λ (ss : List Stage). MeansPlain (w.letters ++ ls) 0 begun [] ss []) (sym c.in_ok-stages.ensures.items) refl,
    stands,
  );
}

pub loop-entry-preserved : goal.loop-entry-preserved
loop-entry-preserved g c = record {
  honesty = λ honest. c.loop-entry.invariant.honesty (c.in_ok-stage.ensures.honesty honest);
  run = λ honest w stands none.
      let before = c.loop-entry.invariant.run (c.in_ok-stage.ensures.honesty honest) w stands none in
      let went = c.in_ok-stage.ensures.run honest (length w.nodes) w before.0 before.2 before.7 before.5 in
      let whole = append_assoc before.1 (c.in-Some.entry ∷ []) _ ∙ ap (λ (l : List Entry). before.1 ++ l) (sym c.in-Some.ensures.steps.0) ∙ before.3 in
      let size = ap length c.in_ok-push.ensures.items ∙ length-append c.loop-entry.stages.items _ ∙ ap (λ k. k + 1) before.4 ∙ sym (length-append before.1 (c.in-Some.entry ∷ [])) in
      let means = next_entry before.0 went.0 went.3.letters _ before.1 c.loop-entry.stages.items before.2 went.1 c.in-Some.entry c.in_ok-stage.stage went.3.sent (c.len-number.ensures ∙ c.loop-entry.stages.ok.0 ∙ before.4) before.6 went.4 went.5 in (
        went.0,
        before.1 ++ c.in-Some.entry ∷ [],
        before.2 ++ went.1,
        whole,
        size,
        went.3.gone,
        λ ls. subst (λ (ss : List Stage). MeansPlain (went.0.letters ++ ls) 0 begun (before.1 ++ c.in-Some.entry ∷ []) ss (before.2 ++ went.1)) (sym c.in_ok-push.ensures.items) (means ls),
        went.2,
      );
}

pub returns-clause-run : goal.returns-clause-run
returns-clause-run g c = λ honest w stands none.
    let all = c.loop-entry.invariant.run honest w stands none in
    let whole : all.1 ≡ c.args.entries.items = sym (append-nil all.1) ∙ ap (λ (l : List Entry). all.1 ++ l) (sym (nil_from_length _ (sym c.loop-entry.entry-iterator.rest.ok.0 ∙ c.in-None.ensures.steps.0))) ∙ all.3 in
    let means : (ls : List Letter) → MeansPlain (all.0.letters ++ ls) 0 begun c.args.entries.items c.loop-entry.stages.items all.2 =
    λ ls. subst (λ (es : List Entry). MeansPlain (all.0.letters ++ ls) 0 begun es c.loop-entry.stages.items all.2) whole (all.6 ls) in
    (all.0, all_gone (length w.nodes) w all.0 c.args.entries.items c.loop-entry.course record { marks = c.loop-entry.course.marks; stages = c.loop-entry.stages } all.2 refl all.5 means, all.7)
