use Rattle.std.proofs.Common.{◌≡◌, ◌∷◌, ◌+◌, ℕ, List, drop, rules, arith, ap, sym, subst, ◌∙◌}
use Rattle.std.proofs.lemmas.Grind.{common_steps}
use Rattle.ballots.specs.declared.letters.Cast.{Cast}
use Rattle.ballots.specs.Rows.{at}
use Rattle.proposer.specs.Bounds.{AreInLog, in_log}
use Rattle.proposer.specs.Joining.{join, join_one}
use Rattle.proposer.proofs.Joins.{joins, passes, join_one_in_log}
use Rattle.proposer.proofs.promises.Joined.with.Goals as goal
use Rattle.proposer.proofs.promises.Joined.with.Goals.{then-vote-le-MOST_PLACES+in_ok-join_vote}
use Rattle.proposer.proofs.promises.Joined.with.Goals.{else-vote-le-MOST_PLACES}

pub loop-vote-preserved : goal.loop-vote-preserved
loop-vote-preserved c =
    let vote = c.vote-item.result in
    let rest : List (ℕ × Cast) = drop (c.loop-vote.vote-index + 1) c.args.votes.now in
    let was = c.loop-vote.rows.entries in
    let here : drop c.loop-vote.vote-index c.args.votes.now ≡ vote ∷ rest = first_of (search rules, grind (arith, common_steps)) in
    let so_far : join was (in_log (vote ∷ rest)) ≡ join c.args.self.now (in_log c.args.votes.now) = ap (λ v. join was (in_log v)) (sym here) ∙ c.loop-vote.invariant.0 in
    elim c.if-vote-le-MOST_PLACES.branch [
      | then-vote-le-MOST_PLACES+in_ok-join_vote w ↦
          let is : c.if-vote-le-MOST_PLACES.rows.entries ≡ join_one was vote.0 vote.1 (at was vote.0) = ap (λ m. m.entries) w.rows-is ∙ w.in_ok-join_vote.ensures in (
            ap (λ r. join r (in_log rest)) is ∙ sym (joins was vote rest w.if-vote-le-MOST_PLACES.true) ∙ so_far,
            subst AreInLog (sym is) (join_one_in_log was vote.0 vote.1 (at was vote.0) c.loop-vote.invariant.1 w.if-vote-le-MOST_PLACES.true),
          )
      | else-vote-le-MOST_PLACES w ↦ (
        ap (λ m. join m.entries (in_log rest)) w.rows-is ∙ sym (passes was vote rest w.if-vote-le-MOST_PLACES.false) ∙ so_far,
        subst (λ m. AreInLog m.entries) (sym w.rows-is) c.loop-vote.invariant.1,
      )
    ]
