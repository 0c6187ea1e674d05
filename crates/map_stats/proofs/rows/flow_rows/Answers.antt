use Rattle.map_stats.proofs.Rowing.{are_flows_if_ok}
use Rattle.map_stats.proofs.rows.flow_rows.Goals as goal

pub returns : goal.returns
returns c =
    are_flows_if_ok c.rows_of.result (λ rows. rows.items) c.args.requests.now c.args.leases.now c.in_ok-sums.sums.entries c.len-count.ensures.ordered c.in_ok-sums.ensures c.rows_of.ensures
