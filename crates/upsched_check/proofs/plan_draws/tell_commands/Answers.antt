use Rattle.upsched_check.proofs.Drawn.{commands_told}
use Rattle.upsched_check.proofs.plan_draws.tell_commands.Goals as goal

pub returns-clause-told : goal.returns-clause-told
returns-clause-told g c = commands_told c.print_account.result _ _ c.args.commands.now c.in_ok-account.account c.in_ok-account.ensures.account c.print_account.ensures.printed
