use Rattle.std.proofs.Common.{string_bytes}
use Rattle.json_answers.specs.Events.{counts_data}
use Rattle.upsched_json.proofs.Callers.{value_printed}
use Rattle.upsched_json_run.proofs.rows.print_counts.Goals as goal

pub returns-in-Ok-clause-printed : goal.returns-in-Ok-clause-printed
returns-in-Ok-clause-printed g c =
    value_printed c.print_line.result (counts_data c.args.letters c.args.outputs c.args.transmissions) (string_bytes c.in-Ok.text)
    (g.O.Write.contents c.args.output.now) (g.O.Write.contents c.print_line.new.output) c.in-Ok.ensures
    (rw c.as_str.ensures.value at c.print_line.ensures.printed)
