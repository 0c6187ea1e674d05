use Rattle.std.proofs.Common.{◌≡◌, ◌<◌, length, slice_get, Some, refl, arith}
use Rattle.std.proofs.lemmas.Option.{slice_get_read}
use Rattle.place_table.proofs.Places.{none_of_run, next_of_run}
use Rattle.place_table.proofs.table.next_in_run.Goals as goal

pub returns-then-index-run-clause-row : goal.returns-then-index-run-clause-row
returns-then-index-run-clause-row g c = none_of_run c.args.first c.args.run.now c.args.place (omega arith)

pub returns-clause-row : goal.returns-clause-row
returns-clause-row g c =
    let run = c.args.run.now in
    let i = c.saturating_sub-index.result in
    let k = c.saturating_sub-index.ensures in
    let within : i < length run = omega arith in
    let here : slice_get run i ≡ Some c.index-run-index.result = slice_get_read run (length run) i c.index-run-index.result refl within c.index-run-index.is in
    next_of_run c.args.first run c.args.place i c.index-run-index.result (omega arith) (λ more. omega arith) here
