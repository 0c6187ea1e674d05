use Rattle.json_stats.specs.Flows.{requests_row, delays_row, waits_row, windows_row}
use Rattle.json_stats.proofs.Added.{four_added}
use Rattle.json_stats.proofs.flows.flow_texts.Goals as goal

pub returns : goal.returns
returns c =
    let row = c.args.row.now in
    four_added (requests_row row.lease row.summary) (delays_row row.lease row.summary.delays) (waits_row row.lease row.summary.waits) (windows_row row.lease row.summary) _ _ _ _ _
    c.new-texts.ensures.items c.in_ok-add_requests.ensures c.in_ok-add_delays.ensures c.in_ok-add_waits.ensures c.in_ok-add_windows.ensures
