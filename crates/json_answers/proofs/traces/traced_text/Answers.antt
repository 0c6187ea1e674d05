use Rattle.watched_runs.specs.Shown.{shown}
use Rattle.json_answers.specs.Events.{TellsTraced}
use Rattle.json_answers.proofs.Told.{traced_said, traced_plain, text_said}
use Rattle.json_answers.proofs.traces.traced_text.Goals as goal

pub text_of-requires : goal.text_of-requires
text_of-requires c = traced_plain (shown c.args.row.now) _ (traced_said (shown c.args.row.now) _ _ c.in_ok-map.ensures c.in_ok-put_trace.ensures)

pub returns : goal.returns
returns c =
    text_said c.text_of.result (TellsTraced (shown c.args.row.now)) _ (traced_said (shown c.args.row.now) _ _ c.in_ok-map.ensures c.in_ok-put_trace.ensures)
    c.text_of.ensures
