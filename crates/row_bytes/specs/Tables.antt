-- Which tables bytes spell, and reading tables one behind the other, up to the first fault.
use Rattle.std.specs.Prelude.{◌≡◌, ◌⊎◌, ℕ, zero, suc, ◌<◌, ◌==◌, List, [], ◌∷◌, ◌++◌, length, map, None, Ok, Err}
use Rattle.std.specs.Prelude.{IsOkAnd, if◌then◌else◌}
use Rattle.flow_state.specs.declared.whole.WholeTable.{WholeTable}
use Rattle.flow_state.specs.Firm.{AreFirm, IsFirm}
use Rattle.flow_state.specs.Rows.{Rows, Table, lent_flow, table_of}
use Rattle.flow_state.specs.View.{flow_view}
use Rattle.row_bytes.specs.declared.fault.RowsFault.{RowsFault}
use Rattle.row_bytes.specs.declared.fault.RowsFault.TheVariants.{Trailing, NotFirm, OutOfMemory}
use Rattle.row_bytes.specs.Fits.{FitsRows}
use Rattle.row_bytes.specs.Reading.{◌>>=◌, FailsReading, HasRow, Read, number_2_at, whole_at}
use Rattle.row_bytes.specs.Spelling.{Whole, rows_spelling}

-- the bytes spell the tables, which commands could leave
pub record Spells (bytes : List ℕ) (rows : Rows) : Type 0 where
  pub firm : AreFirm rows
  pub fits : FitsRows rows
  pub parts : bytes ≡ rows_spelling rows

-- the bytes spell no tables
abbrev pub SpellsNone : List ℕ → Type 0
SpellsNone bytes = (rows : Rows) → ¬ Spells bytes rows

-- ---- a table behind others

-- the lists of a whole table
abbrev pub whole_in : WholeTable → Whole
whole_in w = record { row = w.row; leases = w.leases.items; flows = w.flows.items; waiting = w.waiting.items }

-- the table of all that is kept of a channel: which of its due times each flow's is
abbrev pub table_of_whole : Whole → Table
table_of_whole w = record { row = w.row; leases = w.leases; flows = map flow_view w.flows; waiting = w.waiting }

-- it is one that commands could leave behind these, of a channel that isn't among them, and each due time is one
pub record IsFirmBehind (rows : Rows) (w : Whole) : Type 0 where
  pub firm : IsFirm (table_of_whole w)
  pub dues : map lent_flow (table_of_whole w).flows ≡ w.flows
  pub new : table_of rows w.row.channel.id ≡ None

-- the first fault of a table that is read behind these: one of its bytes, or that it isn't firm
abbrev pub FaultAt : Rows → Read (Whole × List ℕ) → RowsFault → Type 0
FaultAt rows (Ok x) fault = (¬ IsFirmBehind rows x.0) × (fault ≡ NotFirm x.0.row.channel.id)
FaultAt rows (Err e) fault = fault ≡ e

-- ---- tables

-- a table is read, and then what goes on behind it; or its fault
abbrev pub ReadsOn : Rows → Read (Whole × List ℕ) → (Rows → List ℕ → Type 0) → Read (Rows × List ℕ) → Type 0
ReadsOn rows (Ok x) goes_on read =
    (IsFirmBehind rows x.0 × goes_on (rows ++ table_of_whole x.0 ∷ []) x.1) ⊎ ((¬ IsFirmBehind rows x.0) × (read ≡ Err (NotFirm x.0.row.channel.id)))
ReadsOn rows (Err e) goes_on read = read ≡ Err e

-- so many tables are read behind these
abbrev pub ReadsTables : ℕ → Rows → List ℕ → Read (Rows × List ℕ) → Type 0
ReadsTables zero rows bytes read = read ≡ Ok (rows, bytes)
ReadsTables (suc n) rows bytes read = ReadsOn rows (whole_at bytes) (λ more behind. ReadsTables n more behind read) read

-- nothing follows the last table
abbrev pub at_end : Rows × List ℕ → Read Rows
at_end x = if length x.1 == 0 then Ok x.0 else Err Trailing

-- all tables of the bytes are read, behind how many there are
abbrev pub ReadsAll : Read (ℕ × List ℕ) → Read Rows → Type 0
ReadsAll (Ok count) read = (x : Read (Rows × List ℕ)) × ReadsTables count.0 [] count.1 x × (read ≡ (x >>= at_end))
ReadsAll (Err e) read = read ≡ Err e

abbrev pub AreRead : List ℕ → Read Rows → Type 0
AreRead bytes read = ReadsAll (number_2_at bytes) read

-- ---- answers

-- a whole table was taken off the front of bytes, with the bytes behind it
abbrev pub TakesWhole : (lack : Type 0) → Read WholeTable → List ℕ → Read (Whole × List ℕ) → Type 0
TakesWhole lack (Ok w) behind read = read ≡ Ok (whole_in w, behind)
TakesWhole lack (Err e) behind read = FailsReading lack e read

-- a fault is this, and want of memory comes only so
abbrev pub Fails : (lack : Type 0) → (RowsFault → Type 0) → RowsFault → Type 0
Fails lack IsFault OutOfMemory = lack
Fails lack IsFault fault = IsFault fault

-- a table was taken off the front of bytes and put behind these
pub record TakesTable (old new : Rows) (behind : List ℕ) (read : Read (Whole × List ℕ)) : Type 0 where
  pub taken : Whole
  pub is : read ≡ Ok (taken, behind)
  pub firm : IsFirmBehind old taken
  pub more : new ≡ old ++ table_of_whole taken ∷ []

-- of so many channels the first is read without a fault up to its Ack Time
abbrev pub HasTable : ℕ → List ℕ → Type 0
HasTable count bytes = (0 < count) × HasRow bytes

abbrev pub TakesMemory : List ℕ → Type 0
TakesMemory bytes = IsOkAnd (number_2_at bytes) (λ count. HasTable count.0 count.1)
