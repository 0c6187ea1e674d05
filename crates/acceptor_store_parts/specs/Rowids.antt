-- The tables of a database that was there before, with their rows by ascending rowid.
use Rattle.std.specs.Prelude.{◌≡◌, ℕ, List, map}
use Rattle.ballots.specs.declared.letters.Cast.{Cast}
use Rattle.sqlite.specs.Order.{Row}
use Rattle.sqlite.specs.Effect.{IsDatabase}
use Rattle.sqlite.specs.State.{State, Opens, IsLive}
use Rattle.sqlite_trees.specs.Tree.{Trees, IsTable}
use Rattle.acceptor_store_parts.specs.declared.Version.{Version}
use Rattle.acceptor_store_parts.specs.declared.Version.TheVariants.{First, Second, Third, Fourth}
use Rattle.acceptor_store_parts.specs.Tables.{schema_of}
use Rattle.acceptor_store_parts.specs.Stored.{number_row, number_shown, vote_row, vote_shown, learned_row}
use Rattle.acceptor_store_parts.specs.Stored.{learned_shown, fact_row, fact_shown, KeepsLearned}

-- the version has a table of facts
abbrev pub HasFactTable : Version → Type 0
HasFactTable First = ⊥
HasFactTable Second = ⊥
HasFactTable Third = Unit {0}
HasFactTable Fourth = Unit {0}

-- the trees of the version's tables are tables
abbrev pub AreShaped : Version → Trees → Type 0
AreShaped First db = IsTable (db 0) × IsTable (db 1)
AreShaped Second db = IsTable (db 0) × IsTable (db 1) × IsTable (db 2)
AreShaped Third db = IsTable (db 0) × IsTable (db 1) × IsTable (db 2) × IsTable (db 3)
AreShaped Fourth db = IsTable (db 0) × IsTable (db 1) × IsTable (db 2) × IsTable (db 3)

-- a connection was opened over its store, where the trees of the version's tables are tables
pub record IsReread (version : Version) (s : State) : Type 0 where
  pub opens : Opens s
  pub live : IsLive s
  pub shaped : AreShaped version s.now.trees

-- and it sees what an older one had committed
abbrev pub Rereads : Version → State → State → Type 0
Rereads version old new = IsReread version new × (new.now.trees ≡ old.committed.trees)

-- the tables of the records, with their rows by rowid
pub record AreByRowid (version : Version) (s : State) : Type 0 where
  pub schema : s.now.schema ≡ schema_of version
  pub sound : IsDatabase s.now
  pub shaped : AreShaped version s.now.trees

-- where what is shown is numbers, the table holds them
abbrev pub ShowsNumbers : State → List Row → Type 0
ShowsNumbers s rows =
    (version : Version) → AreByRowid version s → (numbers : List (ℕ × ℕ)) → rows ≡ map (λ e. number_shown e.0 e.1) numbers
    → s.now.trees 0 ≡ map (λ e. number_row e.0 e.1) numbers

-- where what is shown is votes, the table holds them
abbrev pub ShowsVotes : State → List Row → Type 0
ShowsVotes s rows = (version : Version) → AreByRowid version s → (votes : List (ℕ × Cast)) → rows ≡ map vote_shown votes → s.now.trees 1 ≡ map vote_row votes

-- where what is shown is learned values, the table holds them
abbrev pub ShowsLearned : State → List Row → Type 0
ShowsLearned s rows =
    (version : Version) → KeepsLearned version → AreByRowid version s → (learned : List (ℕ × List ℕ)) → rows ≡ map learned_shown learned
    → s.now.trees 2 ≡ map learned_row learned

-- where what is shown is facts, the table holds them
abbrev pub ShowsFacts : State → List Row → Type 0
ShowsFacts s rows = AreByRowid Third s → (facts : List (ℕ × List ℕ)) → rows ≡ map fact_shown facts → s.now.trees 3 ≡ map fact_row facts
