use Rattle.map_stats.proofs.Holding.{holds_if_ok}
use Rattle.map_stats.proofs.stats.Stats.add.Goals as goal

pub returns : goal.returns
returns c = holds_if_ok c.add_deed.result c.args.deed.now c.args.flows.now c.args.self.now c.add_deed.new.self c.add_deed.ensures
