use Rattle.std.proofs.Common.{◌≡◌, ◌∙◌, not, filter, rules, ap}
use Rattle.std.proofs.lemmas.Fn.{filter_same}
use Rattle.map_release.specs.declared.numbered.Numbered.{Numbered}
use Rattle.map_release.specs.Released.{has_ended}
use Rattle.epochs.proofs.scheduler.Scheduler.hand_out.Goals as goal

pub returns-clause-given : goal.returns-clause-given
returns-clause-given c =
    let kept : c.retain.new.self.items ≡ filter (λ (x : Numbered). not (has_ended c.args.now x.output)) c.replace-given.result.items =
    filter_same _ (λ (x : Numbered). not (has_ended c.args.now x.output)) _ (λ x b f k. search rules) _ _ c.retain.ensures.filtered in
    let all : c.replace-given.result.items ≡ c.args.self.now.waiting = search rules in
    kept ∙ ap (filter (λ (x : Numbered). not (has_ended c.args.now x.output))) all
