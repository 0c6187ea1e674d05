use Rattle.modem.proofs.Windows.{HasAt-window}
use Rattle.modem.proofs.kept.around.Goals as goal

pub returns-clause-same : goal.returns-clause-same
returns-clause-same c = HasAt-window c.args.kept.now c.args.window c.args.ch c.args.«at» c.requires
