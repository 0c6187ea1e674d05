use Rattle.std.proofs.Common.{map, string_bytes}
use Rattle.json_stats.specs.Flows.{flow_data}
use Rattle.upsched_check.proofs.Valued.{texts_printed}
use Rattle.upsched_check.proofs.json_lines.print_flow.Goals as goal

pub returns : goal.returns
returns g c =
    texts_printed c.print_texts.result (flow_data c.args.row.now) (map string_bytes c.in_ok-texts.texts.items) _ _ c.in_ok-texts.ensures
    (rw c.as_slice.ensures.value at c.print_texts.ensures)
