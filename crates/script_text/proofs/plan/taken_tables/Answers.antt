use Rattle.std.proofs.Common.{map, codes}
use Rattle.toml.specs.View.{view}
use Rattle.script_text.proofs.Taken.{kept, array_at, no_key, no_array}
use Rattle.script_text.proofs.plan.taken_tables.Goals as goal

pub returns-in_default : goal.returns-in_default
returns-in_default c = rw c.new.ensures.items (no_key (codes "command") c.args.table.entries c.in_default.ensures.value)

pub returns-in_err-items : goal.returns-in_err-items
returns-in_err-items c = rw c.from_residual-in_err-items.ensures (no_array (codes "command") c.args.table.entries c.in-Some.value c.in-Some.ensures.value c.in_err-items.ensures.value)

pub returns : goal.returns
returns c =
    let items = map view c.in_ok-items.items.now.items in
    let array = array_at (codes "command") c.args.table.entries c.in-Some.value items c.in-Some.ensures.value c.in_ok-items.ensures.value in
    rw c.replace.ensures.value (kept _ items _ array c.in_ok-tables_at.ensures)
