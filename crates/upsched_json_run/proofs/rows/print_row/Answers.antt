use Rattle.std.proofs.Common.{string_bytes}
use Rattle.upsched_json.proofs.Callers.{line_printed}
use Rattle.upsched_json_run.proofs.rows.print_row.Goals as goal

pub returns-in-Ok-clause-printed : goal.returns-in-Ok-clause-printed
returns-in-Ok-clause-printed g c =
    line_printed c.print_line.result _ (string_bytes c.in-Ok.text)
    (g.O.Write.contents c.args.output.now) (g.O.Write.contents c.print_line.new.output) c.in-Ok.ensures
    (rw c.as_str.ensures.value at c.print_line.ensures.printed)
