use Rattle.std.proofs.Common.{sym, subst}
use Rattle.node_journal.specs.Following.{Steps}
use Rattle.node_journal.specs.declared.follower.Follower.{Follower}
use Rattle.node_journal.specs.declared.follower.Step.TheVariants.{Did}
use Rattle.node_journal.proofs.Steps.{stops_behind}
use Rattle.node_journal.proofs.follower.Follower.obey_and_stop.Goals as goal

pub returns : goal.returns
returns c = λ sent comes.
    subst (λ (x : Follower). Steps c.args.text.now sent c.args.self.now (Did c.letters_out.result) x) (sym c.in_ok-go.ensures)
    (stops_behind c.args.text.now sent c.args.self.now c.args.line.now c.args.after.now c.requires.followed c.requires.phase c.requires.text c.requires.line
    c.work.new.self c.args.asked c.in_ok-acted.acted c.cause_of.result c.letters_out.result c.args.part c.why_of_crash-why.result c.in_ok-acted.ensures c.cause_of.ensures c.requires.asks c.letters_out.ensures c.requires.part c.requires.whole comes c.why_of_crash-why.ensures)
