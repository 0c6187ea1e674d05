use Rattle.watched_runs.specs.Shown.{shown}
use Rattle.json_answers.proofs.Told.{event_said}
use Rattle.json_answers.proofs.events.event_fields.Goals as goal

pub returns : goal.returns
returns c =
    event_said (shown c.args.row.now) c.put.new.map c.in_ok-values.values _ _ c.in_ok-values.ensures
    (rw c.new-map.ensures.empty at c.in_ok-put_number.ensures) c.in_ok-put_answer.ensures c.in_ok-put.ensures.ok
