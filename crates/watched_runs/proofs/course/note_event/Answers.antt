use Rattle.std.proofs.Common.{◌≡◌, ◌∙◌, List, length, ap, sym, subst, ℕ}
use Rattle.ballots.specs.declared.letters.Letter.{Letter}
use Rattle.network_script.specs.Next.{Next}
use Rattle.network_script.specs.World.{Written}
use Rattle.network_script.proofs.Callers.{standings_length}
use Rattle.watched_runs.specs.Following.{followed}
use Rattle.watched_runs.proofs.Followed.{gone_more}
use Rattle.watched_runs.proofs.course.note_event.Goals as goal

pub returns-clause-run : goal.returns-clause-run
returns-clause-run g c = λ honest members w0 w rows stands gone.
    let went = c.in_ok-mark.ensures.run honest w stands in
    let letters = c.letters.ensures.written went.0 went.2 in
    let follows = c.in_ok-follow.ensures ∙ ap (λ (ls : List Letter). followed c.args.event c.in_ok-mark.mark ls c.args.course.now.deliveries) letters in
    let nodes : length went.0.nodes ≡ members = standings_length _ _ went.2.1 ∙ c.in_ok-mark.ensures.members ∙ sym (standings_length _ _ stands.1) ∙ gone.nodes in
    let next = subst (λ (m : ℕ). Next m w c.args.event c.in_ok-mark.mark.answer went.0) gone.nodes went.1 in
    let more = gone_more members w0 w went.0 c.args.course.now _ rows c.args.number c.args.event c.in_ok-mark.mark c.in_ok-push-2.ensures.items c.in_ok-push.ensures.items follows nodes gone next went.3 in
    (went.0, more.0, went.2, more.1, more.2)
