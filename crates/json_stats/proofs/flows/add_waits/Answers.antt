use Rattle.json_stats.specs.Flows.{waits_data}
use Rattle.json_stats.proofs.Added.{one_added}
use Rattle.json_stats.proofs.flows.add_waits.Goals as goal

pub returns : goal.returns
returns c =
    rw c.in-Some.is (one_added (waits_data c.args.lease c.in-Some.waits) c.in_ok-waits_text.field-0 c.args.texts.now.items c.push.new.self.items c.in_ok-push.ensures.items c.in_ok-waits_text.ensures)
