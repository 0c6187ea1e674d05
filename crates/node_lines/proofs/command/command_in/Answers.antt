use Rattle.std.proofs.Common.{◌≡◌, ℕ, List, Some, subst}
use Rattle.toml.specs.Parse.{parse_document}
use Rattle.toml.specs.View.{table_view}
use Rattle.node_lines.proofs.Commands.{no_text}
use Rattle.node_lines.proofs.command.command_in.Goals as goal

pub returns-in-Ok-table_from_str-clause-fault : goal.returns-in-Ok-table_from_str-clause-fault
returns-in-Ok-table_from_str-clause-fault c =
    let Reads : List ℕ → Type 0 = λ text. parse_document text ≡ Some (table_view c.in-Ok-table_from_str.table) in
    let read = subst Reads c.in-Ok.ensures.cases.0 c.in-Ok-table_from_str.ensures.ok in
    no_text c.args.text.now (table_view c.in-Ok-table_from_str.table) read c.in-None.ensures
