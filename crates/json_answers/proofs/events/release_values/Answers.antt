use Rattle.json_answers.proofs.Told.{releases_more}
use Rattle.json_answers.proofs.events.release_values.Goals as goal

pub loop-one-preserved : goal.loop-one-preserved
loop-one-preserved c =
    releases_more c.args.released.now c.loop-one.one-index c.one-item.result c.loop-one.values.items c.push.new.self.items c.in_ok-release_value.field-0
    c.loop-one-test.true c.loop-one.invariant c.one-item.is c.in_ok-release_value.ensures c.in_ok-push.ensures.items
