use Rattle.std.proofs.Common.{ℕ, List, Result, Ok, sym, subst}
use Rattle.node_lines.specs.declared.fault.LineFault.{LineFault}
use Rattle.host_service.specs.Replying.{RepliesTo}
use Rattle.host_service.proofs.service.HostServerKeeper.reply_to.Goals as goal

pub returns-in-Ok-clause-replies : goal.returns-in-Ok-clause-replies
returns-in-Ok-clause-replies g c =
    let kept : RepliesTo c.args.self.now.host (Ok c.in-Ok.line) c.reply_to_line.result c.reply_to_line.new.host =
    subst (λ (line : List ℕ). RepliesTo c.args.self.now.host (Ok line) c.reply_to_line.result c.reply_to_line.new.host) c.into_vec.ensures c.reply_to_line.ensures in
    subst (λ (came : Result (List ℕ) LineFault). RepliesTo c.args.self.now.host came c.reply_to_line.result c.reply_to_line.new.host) (sym c.in-Ok.is) kept
