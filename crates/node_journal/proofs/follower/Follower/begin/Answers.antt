use Rattle.std.proofs.Common.{◌≡◌, ◌≤◌, ◌∙◌, ℕ, List, length, take, sym, subst, arith}
use Rattle.node_journal.specs.Following.{IsOfLife, Steps}
use Rattle.node_journal.specs.declared.follower.Follower.{Follower}
use Rattle.node_journal.specs.declared.follower.Step.TheVariants.{Moved}
use Rattle.node_journal.proofs.Pieces.{rest_of}
use Rattle.node_journal.proofs.Steps.{begins_in_part, begins_whole}
use Rattle.node_journal.proofs.follower.Follower.begin.Goals as goal

pub returns-then-count-len : goal.returns-then-count-len
returns-then-count-len c = λ sent.
    subst (λ (x : Follower). Steps c.args.text.now sent c.args.self.now Moved x) (sym c.in_ok-go.ensures)
    (begins_whole c.args.text.now sent c.args.self.now c.deref.result.now c.written_part-count.result c.requires.followed c.requires.phase
    (c.deref.ensures.value ∙ c.in_ok-head.ensures) (subst (λ (xs : List ℕ). take c.written_part-count.result xs ≡ take c.written_part-count.result c.deref.result.now) (rest_of c.args.text.now c.args.self.now.place) c.written_part-count.ensures.same) (omega (arith, c.if-count-len.true, c.len.ensures, c.deref.ensures.len)))

pub returns : goal.returns
returns c = λ sent.
    subst (λ (x : Follower). Steps c.args.text.now sent c.args.self.now c.step_over.result x) (sym c.in_ok-go-2.ensures)
    (begins_in_part c.args.text.now sent c.args.self.now c.deref.result.now c.written_part-count.result c.why_of_life-why.result c.step_over.result c.requires.followed c.requires.phase
    (c.deref.ensures.value ∙ c.in_ok-head.ensures) (subst (λ (xs : List ℕ). c.written_part-count.result ≤ length xs) (rest_of c.args.text.now c.args.self.now.place) c.written_part-count.ensures.first) (subst (λ (xs : List ℕ). take c.written_part-count.result xs ≡ take c.written_part-count.result c.deref.result.now) (rest_of c.args.text.now c.args.self.now.place) c.written_part-count.ensures.same) c.step_over.ensures
    (subst (λ (xs : List ℕ). IsOfLife c.args.self.now xs c.written_part-count.result c.why_of_life-why.result) (rest_of c.args.text.now c.args.self.now.place) c.why_of_life-why.ensures))
