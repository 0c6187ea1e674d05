use Rattle.toml.specs.View.{view}
use Rattle.script_text.specs.CommandTable.{HasPair}
use Rattle.script_text.proofs.Defaults.{held_there}
use Rattle.script_text.proofs.command_table.backoff_or_own.Goals as goal

pub returns-in-Some-clause-only : goal.returns-in-Some-clause-only
returns-in-Some-clause-only c =
    held_there (HasPair (view c.args.table.now) c.args.key.now) (view c.args.table.now) c.args.key.now (255, 255) _ _ c.in-Some.ensures c.backoff_at.ensures.only
