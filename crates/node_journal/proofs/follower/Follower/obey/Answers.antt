use Rattle.std.proofs.Common.{◌≡◌, ℕ, List, IfSome, ◌∙◌, refl, sym, subst, arith}
use Rattle.node_journal.specs.Following.{Steps}
use Rattle.node_journal.specs.Tears.{GoesOtherwise}
use Rattle.node_journal.specs.declared.tear.Why.TheVariants.{OtherReply}
use Rattle.node_journal.specs.declared.follower.Follower.{Follower}
use Rattle.node_journal.specs.declared.follower.Step.TheVariants.{Did}
use Rattle.node_journal.proofs.Steps.{obeys_in_part, obeys_whole}
use Rattle.node_journal.proofs.follower.Follower.obey.Goals as goal

pub returns-then-count-len : goal.returns-then-count-len
returns-then-count-len c = λ sent comes.
    subst (λ (x : Follower). Steps c.args.text.now sent c.args.self.now (Did c.letters_out.result) x) (sym c.in_ok-go.ensures)
    (obeys_whole c.args.text.now sent c.args.self.now c.args.line.now c.args.after.now c.requires.followed c.requires.phase c.requires.text c.requires.line
    c.work.new.self c.args.asked c.in_ok-acted.acted c.cause_of.result c.letters_out.result c.deref.result.now c.written_part-count.result c.in_ok-acted.ensures c.cause_of.ensures c.requires.asks c.letters_out.ensures
    (c.deref.ensures.value ∙ c.in_ok-bytes.ensures) c.written_part-count.ensures.same (omega (arith, c.if-count-len.true, c.len.ensures, c.deref.ensures.len)) comes)

pub returns : goal.returns
returns c = λ sent comes.
    subst (λ (x : Follower). Steps c.args.text.now sent c.args.self.now (Did c.letters_out-2.result) x) (sym c.in_ok-go-2.ensures)
    (obeys_in_part c.args.text.now sent c.args.self.now c.args.line.now c.args.after.now c.requires.followed c.requires.phase c.requires.text c.requires.line
    c.work.new.self c.args.asked c.in_ok-acted.acted c.cause_of.result c.letters_out-2.result c.deref.result.now c.written_part-count.result c.why_of_reply-why.result c.entries-entries.ensures.replay (c.entries-entries.ensures.trusted (λ n. refl)) c.in_ok-acted.ensures c.cause_of.ensures c.requires.asks c.letters_out-2.ensures
    (c.deref.ensures.value ∙ c.in_ok-bytes.ensures) c.written_part-count.ensures.first c.written_part-count.ensures.same comes
    (subst (λ (r : List ℕ). IfSome c.why_of_reply-why.result (λ w. (w ≡ OtherReply) × GoesOtherwise c.args.after.now c.written_part-count.result r c.written_part-count.result)) (c.deref-2.ensures.value ∙ sym c.deref.ensures.value) c.why_of_reply-why.ensures))
