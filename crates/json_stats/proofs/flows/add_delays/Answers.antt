use Rattle.json_stats.specs.Flows.{delays_data}
use Rattle.json_stats.proofs.Added.{no_row, some_row}
use Rattle.json_stats.proofs.flows.add_delays.Goals as goal

pub returns-then-delays-eq0 : goal.returns-then-delays-eq0
returns-then-delays-eq0 c = no_row (delays_data c.args.lease c.args.delays.now) c.args.delays.now.count c.args.texts.now.items c.if-delays-eq0.true

pub returns : goal.returns
returns c =
    some_row (delays_data c.args.lease c.args.delays.now) c.args.delays.now.count c.in_ok-delays_text.field-0 c.args.texts.now.items c.push.new.self.items c.if-delays-eq0.false c.in_ok-push.ensures.items c.in_ok-delays_text.ensures
