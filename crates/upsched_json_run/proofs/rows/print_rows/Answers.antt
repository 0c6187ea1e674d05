use Rattle.std.proofs.Common.{◌≡◌, take}
use Rattle.std.proofs.lemmas.List.{take_all}
use Rattle.watched_runs.specs.Shown.{shown}
use Rattle.upsched_json_run.proofs.Told.{none_told, one_told}
use Rattle.upsched_json_run.proofs.rows.print_rows.Goals as goal

pub loop-i-init : goal.loop-i-init
loop-i-init g c = none_told c.args.is_traced _

pub loop-i-preserved : goal.loop-i-preserved
loop-i-preserved g c =
    one_told c.args.is_traced c.args.run.now.rows c.loop-i.i (shown c.row.result) _ _ _ (rw c.len-i-end.ensures at c.loop-i-test.true) c.row.ensures c.loop-i.invariant c.in_ok-print_row.ensures.printed
