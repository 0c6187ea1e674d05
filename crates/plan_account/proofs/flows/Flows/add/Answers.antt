use Rattle.std.proofs.Common.{refl}
use Rattle.plan_account.proofs.Growing.{holds_more}
use Rattle.plan_account.proofs.flows.Flows.add.Goals as goal

pub returns : goal.returns
returns c = λ ds held. holds_more ds c.args.deed.now c.args.self.now c.add_told.new.self _ c.in_ok-command.command held c.in_ok-command.ensures c.in_ok-add_told.ensures refl (λ q. refl)
