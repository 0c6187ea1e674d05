use Rattle.script_counts.proofs.Reading.{of_none}
use Rattle.script_counts.proofs.counts.is_of.Goals as goal

pub returns-in-None : goal.returns-in-None
returns-in-None c = of_none c.args.commands.now c.args.index c.args.value.now c.in-None.ensures.lookup.3
