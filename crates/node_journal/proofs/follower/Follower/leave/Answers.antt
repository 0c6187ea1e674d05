use Rattle.std.proofs.Common.{sym, subst}
use Rattle.node_journal.specs.Following.{Steps}
use Rattle.node_journal.specs.declared.follower.Follower.{Follower}
use Rattle.node_journal.specs.declared.follower.Step.TheVariants.{Moved}
use Rattle.node_journal.proofs.Steps.{leaves}
use Rattle.node_journal.proofs.follower.Follower.leave.Goals as goal

pub returns : goal.returns
returns c = λ sent.
    subst (λ (x : Follower). Steps c.args.text.now sent c.args.self.now Moved x) (sym c.in_ok-go.ensures)
    (leaves c.args.text.now sent c.args.self.now c.args.line.now c.args.after.now c.requires.followed c.requires.phase c.requires.text c.requires.line c.args.part c.why_of_crash-why.result c.requires.asks c.requires.part c.why_of_crash-why.ensures)
