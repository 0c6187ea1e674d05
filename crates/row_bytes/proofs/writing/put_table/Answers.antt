use Rattle.std.proofs.Common.{◌<◌, ◌^◌, List, length, sym, subst, ◌∙◌}
use Rattle.std.specs.Prelude.{All, OnOk}
use Rattle.flow_state.specs.declared.flow.Flow.{Flow}
use Rattle.flow_state.specs.declared.flow.Waiting.{Waiting}
use Rattle.row_bytes.specs.Fits.{FitsFlow, FitsLease, FitsRequest, FitsRow}
use Rattle.row_bytes.proofs.Written.{few_lent, table_fits}
use Rattle.row_bytes.proofs.writing.put_table.Goals as goal

pub put_flows-requires : goal.put_flows-requires
put_flows-requires c = subst (λ (fs : List Flow). length fs < 2 ^ 16) (sym (c.as_slice.ensures.value ∙ c.in_ok-copy_flows.ensures)) (few_lent c.args.table.now c.row.ensures.sound)

pub returns-clause-fits : goal.returns-clause-fits
returns-clause-fits c =
    table_fits c.put_requests.result c.args.table.now c.row.ensures.sound
    (subst FitsRow c.row.ensures.row c.in_ok-put_row.ensures.fits)
    (subst (All FitsLease) c.leases.ensures c.in_ok-put_leases.ensures.fits)
    (subst (All FitsFlow) (c.as_slice.ensures.value ∙ c.in_ok-copy_flows.ensures) c.in_ok-put_flows.ensures.fits)
    (subst (λ (ws : List Waiting). OnOk c.put_requests.result (All FitsRequest ws)) c.requests.ensures.row c.put_requests.ensures.fits)
