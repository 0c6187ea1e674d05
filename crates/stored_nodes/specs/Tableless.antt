-- Which files lost their tables, and what tables tell of files that lost something.
use Rattle.std.specs.Prelude.{◌≡◌, ◌⊎◌, Bool, true, false}
use Rattle.acceptor_store_parts.specs.Tables.{blank_schema}
use Rattle.log_ties.specs.Ties.{IsBehindTables}
use Rattle.log_ties.specs.declared.tie.Loss.{Loss}
use Rattle.log_ties.specs.declared.tie.Loss.TheVariants.{NoTables}
use Rattle.sqlite.specs.Effect.{Database}
use Rattle.sqlite_wal.specs.Recovery.{Image}
use Rattle.stored_nodes.specs.Times.{AllRead, IsOtherTime, ShowsOtherTime, SomeRead}

-- there are no tables, no index and no view
abbrev pub HasNoTables : Database → Type 0
HasNoTables d = d.schema ≡ blank_schema

-- the files hold a database without tables, and their log is behind some
abbrev pub IsTableless : Image → Loss → Type 0
IsTableless image loss = (loss ≡ NoTables) × IsBehindTables image.log × AllRead image HasNoTables

-- the same, as one open of the files showed it
abbrev pub ShowsTableless : Image → Loss → Type 0
ShowsTableless image loss = (loss ≡ NoTables) × IsBehindTables image.log × SomeRead image HasNoTables

-- whether an open of the files found a database without tables
abbrev pub IsFoundBlank : Image → Bool → Type 0
IsFoundBlank image true = SomeRead image HasNoTables
IsFoundBlank image false = ¬ AllRead image HasNoTables

-- this was lost, as the tables tell it: the files are of two times, or they aren't and have no tables
abbrev pub IsLostByTables : Image → Loss → Type 0
IsLostByTables image loss = IsOtherTime image loss ⊎ (((other : Loss) → ¬ ShowsOtherTime image other) × IsTableless image loss)

-- the same, as one open of each showed it
abbrev pub ShowsByTables : Image → Loss → Type 0
ShowsByTables image loss = ShowsOtherTime image loss ⊎ ShowsTableless image loss
