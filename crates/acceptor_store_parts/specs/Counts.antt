-- The count that a database has.
use Rattle.std.specs.Prelude.{◌≡◌, ℕ, List, map, Option, Some, IfSome}
use Rattle.sqlite.specs.Effect.{Database}
use Rattle.sqlite.specs.Order.{Row}
use Rattle.sqlite.specs.State.{State}
use Rattle.acceptor_store_parts.specs.declared.Version.TheVariants.{Fourth}
use Rattle.acceptor_store_parts.specs.declared.owner.Owner.{Owner}
use Rattle.acceptor_store_parts.specs.Owned.{IsOwner, OwnedAt, facts_of}
use Rattle.acceptor_store_parts.specs.Rowids.{AreByRowid}
use Rattle.acceptor_store_parts.specs.Stored.{fact_shown}
use Rattle.acceptor_store_parts.specs.Tables.{schema_of}

-- its tables are those of version 4, where the table of facts names an owner and has this count
abbrev pub HasCount : Database → ℕ → Type 0
HasCount d n = (d.schema ≡ schema_of Fourth) × (owner : Owner) × IsOwner owner × OwnedAt owner n d.trees

-- the same as the query of the facts shows it
abbrev pub ShowsCount : List Row → Owner → ℕ → Type 0
ShowsCount rows owner n = rows ≡ map fact_shown (facts_of owner n)

-- what was read as the count of the database that a connection sees: the count that it has, and none where it has none;
-- where its rows stand by rowid, nothing else is read
pub record IsCountOf (s : State) (read : Option ℕ) : Type 0 where
  pub all : (n : ℕ) → HasCount s.now n → read ≡ Some n
  pub some : AreByRowid Fourth s → IfSome read (HasCount s.now)
