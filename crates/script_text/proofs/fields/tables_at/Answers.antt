use Rattle.std.proofs.Common.{map}
use Rattle.std.proofs.lemmas.List.Folds.{list_all-map}
use Rattle.toml.specs.View.{view, table_view}
use Rattle.script_text.specs.Items.{is_table, items_at}
use Rattle.script_text.proofs.Keys.{of_tables, of_other_items}
use Rattle.script_text.proofs.fields.tables_at.Goals as goal

pub returns-then-are_tables : goal.returns-then-are_tables
returns-then-are_tables c =
    let tables = list_all-map is_table view c.in_ok-items.items.now in
    of_tables (items_at (table_view c.args.table.now) c.args.key.now) (map view c.in_ok-items.items.now) c.in_ok-items.ensures tables c.are_tables.ensures c.if-are_tables.true

pub returns-else-are_tables : goal.returns-else-are_tables
returns-else-are_tables c =
    let tables = list_all-map is_table view c.in_ok-items.items.now in
    of_other_items (items_at (table_view c.args.table.now) c.args.key.now) (map view c.in_ok-items.items.now) c.in_ok-items.ensures tables c.are_tables.ensures c.if-are_tables.false
