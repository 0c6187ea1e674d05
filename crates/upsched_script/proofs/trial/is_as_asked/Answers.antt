use Rattle.std.proofs.Common.{◌≡◌, true, rules}
use Rattle.upsched_script.proofs.Tried.{tried}
use Rattle.upsched_script.proofs.trial.is_as_asked.Goals as goal

pub returns : goal.returns
returns c =
    let yes : c.in_ok-is_written_so.field-0 ≡ true = search rules in
    tried c.runs_as_asked.result c.args.commands.now _ _ _ _ _ _ c.args.text.now _ c.in-Ok.ensures.read (c.in_ok-is_written_so.ensures yes) c.runs_as_asked.ensures
