use Rattle.json_stats.specs.Flows.{windows_data}
use Rattle.json_stats.proofs.Added.{no_row, some_row}
use Rattle.json_stats.proofs.flows.add_windows.Goals as goal

pub returns-then-summary-eq0 : goal.returns-then-summary-eq0
returns-then-summary-eq0 c = no_row (windows_data c.args.lease c.args.summary.now) c.args.summary.now.windows c.args.texts.now.items c.if-summary-eq0.true

pub returns : goal.returns
returns c =
    some_row (windows_data c.args.lease c.args.summary.now) c.args.summary.now.windows c.in_ok-windows_text.field-0 c.args.texts.now.items c.push.new.self.items c.if-summary-eq0.false c.in_ok-push.ensures.items c.in_ok-windows_text.ensures
