use Rattle.std.proofs.Common.{◌≡◌, take, map}
use Rattle.std.specs.List.{AllZip}
use Rattle.toml.specs.View.{view}
use Rattle.script_text.specs.EntryTable.{IsExcept}
use Rattle.script_text.proofs.entry_table.all_but.Given as goal

abbrev pub invariant-loop-item : goal.invariant-loop-item
invariant-loop-item l = record { read : AllZip IsExcept (take l.item-index (map view l.items)) l.all.except; rounds : l.all.rounds ≡ l.rounds }
