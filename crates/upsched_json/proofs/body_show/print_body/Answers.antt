use Rattle.std.proofs.Common.{string_bytes}
use Rattle.json_outputs.specs.Elements.{body_data}
use Rattle.upsched_json.proofs.Callers.{value_kept}
use Rattle.upsched_json.proofs.body_show.print_body.Goals as goal

pub returns : goal.returns
returns g c =
    value_kept (body_data c.args.map.now) (g.O.Write.contents c.args.output.now) (g.O.Write.contents c.print_line.new.output) _
    (string_bytes c.in_ok-text.text, c.in_ok-text.ensures, rw c.as_str.ensures.value at c.in_ok-print_line.ensures.printed)
    c.in_ok-flush.ensures.bytes
