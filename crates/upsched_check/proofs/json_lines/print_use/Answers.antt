use Rattle.std.proofs.Common.{string_bytes}
use Rattle.upsched_check.specs.StatsAsJson.{use_value}
use Rattle.upsched_json.proofs.Callers.{value_printed}
use Rattle.upsched_check.proofs.json_lines.print_use.Goals as goal

pub returns : goal.returns
returns g c =
    value_printed c.print_line.result (use_value c.args.maps.now.entries (c.args.key, c.args.tally.now)) (string_bytes c.in_ok-text.text)
    (g.O.Write.contents c.args.output.now) (g.O.Write.contents c.print_line.new.output) (rw c.whole_of.ensures at c.in_ok-text.ensures)
    (rw c.as_str.ensures.value at c.print_line.ensures.printed)
