-- A file of a scheduler's tables (this project's format): a line that tells what it is, and the bytes of the tables.
use Rattle.std.specs.Prelude.{◌≡◌, ◌≢◌, ℕ, List, [], ◌∷◌, ◌++◌, Option, Err, IfSome, codes}
use Rattle.flow_state.specs.Rows.{Rows}
use Rattle.row_bytes.specs.declared.fault.RowsFault.{RowsFault}
use Rattle.row_bytes.specs.Faults.{fault_number}
use Rattle.row_bytes.specs.Spelling.{rows_spelling}
use Rattle.row_bytes.specs.Tables.{AreRead, Fails, Spells, TakesMemory}
use Rattle.upsched_resume.specs.declared.fault.ResumeFault.{ResumeFault}
use Rattle.upsched_resume.specs.declared.fault.ResumeFault.TheVariants.{Fault, NoRows, Rows as NotRows}

-- the line with which it begins
abbrev pub first_line : List ℕ
first_line = codes "upsched rows 1" ++ 10 ∷ []

-- the file of these tables
abbrev pub rows_file : Rows → List ℕ
rows_file rows = first_line ++ rows_spelling rows

-- the bytes are a file of these tables, which commands could leave
abbrev pub IsRowsFile : List ℕ → Rows → Type 0
IsRowsFile bytes rows = (spelling : List ℕ) × (bytes ≡ first_line ++ spelling) × Spells spelling rows

-- the first fault of a spelling, or want of memory, which comes only where rows are
abbrev pub IsSpellingFault : List ℕ → RowsFault → Type 0
IsSpellingFault spelling why = Fails (TakesMemory spelling) (λ fault. AreRead spelling (Err fault)) why

-- why bytes are no file of tables: they don't begin with the line, or what is behind it has this fault
abbrev pub IsRowsFault : List ℕ → ResumeFault → Type 0
IsRowsFault bytes (Fault fault) = ⊥
IsRowsFault bytes NoRows = (spelling : List ℕ) → bytes ≢ first_line ++ spelling
IsRowsFault bytes (NotRows number why) = (number ≡ fault_number why) × ((spelling : List ℕ) × (bytes ≡ first_line ++ spelling) × IsSpellingFault spelling why)

-- the fault is one of tables, and why the bytes, where they are known, are no file of them
abbrev pub IsOfRows : ResumeFault → Type 0
IsOfRows (Fault fault) = ⊥
IsOfRows NoRows = Unit {0}
IsOfRows (NotRows number why) = number ≡ fault_number why

abbrev pub TellsRowsFault : Option (List ℕ) → ResumeFault → Type 0
TellsRowsFault known fault = IsOfRows fault × IfSome known (λ bytes. IsRowsFault bytes fault)
