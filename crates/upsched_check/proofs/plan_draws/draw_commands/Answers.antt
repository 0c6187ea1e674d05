use Rattle.upsched_check.proofs.Drawn.{commands_drawn}
use Rattle.upsched_check.proofs.plan_draws.draw_commands.Goals as goal

pub returns-clause-drawn : goal.returns-clause-drawn
returns-clause-drawn g c = commands_drawn c.print_picture.result _ _ c.args.commands.now c.args.sent.now c.in_ok-account.account c.in_ok-account.ensures.account c.print_picture.ensures.printed
