use Rattle.std.proofs.Common.{map}
use Rattle.toml.specs.Data.{get_member}
use Rattle.toml.specs.View.{view, table_view}
use Rattle.script_text.proofs.Keys.{of_array}
use Rattle.script_text.proofs.fields.items_at.Goals as goal

pub returns : goal.returns
returns c =
    rw (c.as_slice.ensures.value) (of_array (get_member c.args.key.now (table_view c.args.table.now)) (view c.in-Some.value.now) (map view c.in_ok-items.items.now.items) c.in-Some.ensures c.in_ok-items.ensures)
