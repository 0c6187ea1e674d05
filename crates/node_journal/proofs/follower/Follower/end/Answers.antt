use Rattle.std.proofs.Common.{◌∙◌, sym, subst, arith}
use Rattle.node_journal.specs.Following.{Steps}
use Rattle.node_journal.specs.declared.follower.Follower.{Follower}
use Rattle.node_journal.specs.declared.follower.Step.TheVariants.{Did, Moved}
use Rattle.node_journal.proofs.Pieces.{no_element}
use Rattle.node_journal.proofs.Steps.{ends_crashed, ends_idle}
use Rattle.node_journal.proofs.follower.Follower.end.Goals as goal

pub returns-then-is_empty : goal.returns-then-is_empty
returns-then-is_empty c = λ sent.
    subst (λ (x : Follower). Steps c.args.text.now sent c.args.self.now Moved x) (sym c.in_ok-go.ensures)
    (ends_idle c.args.text.now sent c.args.self.now c.requires.followed c.requires.phase
    (sym c.entries.ensures.entries ∙ no_element c.entries.result.now (grind (arith, c.if-is_empty.ensures, c.if-is_empty.true, c.is_empty.ensures))))

pub returns : goal.returns
returns c = λ sent.
    subst (λ (x : Follower). Steps c.args.text.now sent c.args.self.now (Did c.new.result) x) (sym c.in_ok-go-2.ensures)
    (ends_crashed c.args.text.now sent c.args.self.now c.crash.new.self c.new.result c.requires.followed c.requires.phase c.in_ok-crash.ensures c.new.ensures.items)
