use Rattle.std.proofs.Common.{sym, subst}
use Rattle.node_journal.specs.Following.{Steps}
use Rattle.node_journal.specs.declared.follower.Follower.{Follower}
use Rattle.node_journal.specs.declared.follower.Step.TheVariants.{Moved}
use Rattle.node_journal.proofs.Steps.{halves}
use Rattle.node_journal.proofs.follower.Follower.stop.Goals as goal

pub returns : goal.returns
returns c = λ sent.
    subst (λ (x : Follower). Steps c.args.text.now sent c.args.self.now Moved x) (sym c.in_ok-go.ensures)
    (halves c.args.text.now sent c.args.self.now c.args.count c.requires.followed c.requires.phase c.requires.half)
