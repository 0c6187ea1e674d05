use Rattle.std.proofs.Common.{length}
use Rattle.json_answers.specs.Events.{counts_data}
use Rattle.upsched_json_run.proofs.Told.{run_printed}
use Rattle.upsched_json_run.proofs.rows.print_run.Goals as goal

pub returns-in-Ok-clause-printed : goal.returns-in-Ok-clause-printed
returns-in-Ok-clause-printed g c =
    run_printed c.args.is_traced c.args.run.now _ _ _ _ _ _ _ c.in_ok-print_rows.ensures.printed c.letters.ensures c.outputs.ensures c.transmissions.ensures
    c.in_ok-print_counts.ensures.printed c.in-Ok.ensures.bytes
