use Rattle.std.proofs.Common.{◌≡◌, Err, IfErr, Result, subst, sym}
use Rattle.node_journal.specs.Following.{StopsSo}
use Rattle.node_journal.specs.declared.following.Stop.{Stop}
use Rattle.node_journal.proofs.audits.follow_each_way.Goals as goal
use Rattle.node_journal.proofs.audits.follow_each_way.Goals.{then-stop-furthest, else-stop-furthest}

of_err : {X E : Type 0} (P : E → Type 0) (r : Result X E) (e : E) → r ≡ Err e → IfErr r P → P e
of_err {X} {E} P r e is holds = subst (λ (q : Result X E). IfErr q P) is holds

pub loop-preserved : goal.loop-preserved
loop-preserved c =
    let So = λ (s : Stop). StopsSo c.args.members c.args.journals.now s in
    let now : StopsSo c.args.members c.args.journals.now c.in-Err-2.stop =
    of_err So c.in_ok-stop.field-0 c.in-Err-2.stop c.in-Err-2.is c.in_ok-stop.ensures.stop in (
      elim c.if-stop-furthest.branch [
        | then-stop-furthest w ↦ subst So (sym w.furthest-is) now
        | else-stop-furthest w ↦ subst So (sym w.furthest-is) c.loop.invariant.0
      ],
      now,
    )
