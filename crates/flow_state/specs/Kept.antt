-- What is always true of the stored tables.
use Rattle.std.specs.Prelude.{nat_eq}
use Rattle.indexmap.specs.IndexMap.{IsUnique}
use Rattle.flow_state.specs.declared.flows.Flows.TheInside.{Inside}
use Rattle.flow_state.specs.Entries.{AreIds}

-- each table stands under its channel's id, and no two under one
pub record IsKept (a : Inside) : Type 0 where
  pub ids : AreIds a.tables.entries
  pub unique : IsUnique nat_eq a.tables
