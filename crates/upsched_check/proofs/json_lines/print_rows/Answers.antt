use Rattle.upsched_check.proofs.Valued.{both_printed, printed_kept}
use Rattle.upsched_check.proofs.json_lines.print_rows.Goals as goal

pub returns-clause-printed : goal.returns-clause-printed
returns-clause-printed g c =
    printed_kept _ _ _ _ (both_printed _ _ _ _ _ (both_printed _ _ _ _ _ (both_printed _ _ _ _ _ c.in_ok-print_maps.ensures c.in_ok-print_uses.ensures) c.in_ok-print_sids.ensures)
    c.in_ok-print_flows.ensures) c.in_ok-flush.ensures.bytes
