use Rattle.std.proofs.Common.{map}
use Rattle.toml.specs.Data.{get}
use Rattle.toml.specs.View.{view}
use Rattle.text_faults.proofs.Numbered.{of_array}
use Rattle.text_faults.proofs.search.items_at.Goals as goal

pub returns-in-Some-as_array : goal.returns-in-Some-as_array
returns-in-Some-as_array c =
    rw (c.as_slice.ensures.value) (of_array (get c.args.key.now (view c.args.table.now)) (view c.in-Some.value.now) (map view c.in-Some-as_array.items.now.items) c.in-Some.ensures c.in-Some-as_array.ensures)
