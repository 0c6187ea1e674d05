use Rattle.std.proofs.Common.{◌≡◌, ℕ, List, IfSome, ◌∙◌, sym, subst, arith}
use Rattle.node_journal.specs.Following.{Steps}
use Rattle.node_journal.specs.Tears.{GoesOtherwise}
use Rattle.node_journal.specs.declared.tear.Why.TheVariants.{OtherReply}
use Rattle.node_journal.specs.declared.follower.Follower.{Follower}
use Rattle.node_journal.specs.declared.follower.Step.TheVariants.{Moved}
use Rattle.node_journal.proofs.Steps.{refuses_in_part, refuses_whole}
use Rattle.node_journal.proofs.follower.Follower.refuse.Goals as goal

pub returns-then-count-len : goal.returns-then-count-len
returns-then-count-len c = λ sent.
    subst (λ (x : Follower). Steps c.args.text.now sent c.args.self.now Moved x) (sym c.in_ok-go.ensures)
    (refuses_whole c.args.text.now sent c.args.self.now c.args.line.now c.args.after.now c.requires.followed c.requires.phase c.requires.text c.requires.line
    c.args.why c.deref.result.now c.written_part-count.result c.requires.refused (c.deref.ensures.value ∙ c.in_ok-reply.ensures) c.written_part-count.ensures.same
    (omega (arith, c.if-count-len.true, c.len.ensures, c.deref.ensures.len)))

pub returns : goal.returns
returns c = λ sent.
    subst (λ (x : Follower). Steps c.args.text.now sent c.args.self.now Moved x) (sym c.in_ok-go-2.ensures)
    (refuses_in_part c.args.text.now sent c.args.self.now c.args.line.now c.args.after.now c.requires.followed c.requires.phase c.requires.text c.requires.line
    c.args.why c.deref.result.now c.written_part-count.result c.why_of_reply-why.result c.requires.refused (c.deref.ensures.value ∙ c.in_ok-reply.ensures) c.written_part-count.ensures.first c.written_part-count.ensures.same
    (subst (λ (r : List ℕ). IfSome c.why_of_reply-why.result (λ w. (w ≡ OtherReply) × GoesOtherwise c.args.after.now c.written_part-count.result r c.written_part-count.result)) (c.deref-2.ensures.value ∙ sym c.deref.ensures.value) c.why_of_reply-why.ensures))
