use Rattle.std.proofs.Common.{ℕ, List, Result, Ok, sym, subst}
use Rattle.node_lines.specs.declared.fault.LineFault.{LineFault}
use Rattle.host_service.specs.Waiting.{WaitsTo}
use Rattle.host_service.proofs.waiting.WaitingHostKeeper.reply_to.Goals as goal

pub returns-in-Ok-clause-replies : goal.returns-in-Ok-clause-replies
returns-in-Ok-clause-replies g c =
    let heeded : WaitsTo c.args.self.now (Ok c.in-Ok.line) c.heed_line.result c.heed_line.new.waiting =
    subst (λ (line : List ℕ). WaitsTo c.args.self.now (Ok line) c.heed_line.result c.heed_line.new.waiting) c.into_vec.ensures c.heed_line.ensures in
    subst (λ (came : Result (List ℕ) LineFault). WaitsTo c.args.self.now came c.heed_line.result c.heed_line.new.waiting) (sym c.in-Ok.is) heeded
