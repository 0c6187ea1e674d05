use Rattle.modem.proofs.Windows.{share, no_more}
use Rattle.modem.proofs.kept.few_of.Goals as goal

pub returns-then-channels-len-clause-share : goal.returns-then-channels-len-clause-share
returns-then-channels-len-clause-share c = share c.args.len c.args.channels

pub returns-then-channels-len-clause-bound : goal.returns-then-channels-len-clause-bound
returns-then-channels-len-clause-bound c = no_more c.args.len c.args.channels
