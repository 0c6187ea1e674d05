use Rattle.watched_runs.specs.Shown.{shown}
use Rattle.json_answers.specs.Events.{TellsEvent}
use Rattle.json_answers.proofs.Told.{object_said, said_plain, text_said}
use Rattle.json_answers.proofs.events.event_text.Goals as goal

pub text_of-requires : goal.text_of-requires
text_of-requires c = said_plain (shown c.args.row.now) _ (object_said (shown c.args.row.now) _ c.in_ok-event_fields.ensures)

pub returns : goal.returns
returns c = text_said c.text_of.result (TellsEvent (shown c.args.row.now)) _ (object_said (shown c.args.row.now) _ c.in_ok-event_fields.ensures) c.text_of.ensures
