use Rattle.std.proofs.Common.{string_bytes}
use Rattle.json_outputs.specs.Outputs.{TellsCommand}
use Rattle.upsched_json.proofs.Callers.{line_printed}
use Rattle.upsched_json.proofs.plan_run.print_answer.Goals as goal

pub returns : goal.returns
returns g c =
    line_printed c.print_line.result (TellsCommand c.args.number c.args.answer.now) (string_bytes c.in_ok-text.text)
    (g.O.Write.contents c.args.output.now) (g.O.Write.contents c.print_line.new.output) c.in_ok-text.ensures
    (rw c.as_str.ensures.value at c.print_line.ensures.printed)
