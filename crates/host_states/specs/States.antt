-- The state of a host at the start of an epoch as bytes (this project's format): a line that tells what it is; the epoch,
-- the places of an epoch and the outputs before it, eight bytes each, most significant first; the host's number and how
-- many hosts there are, a byte each; the tables; and a sum of all bytes before it.
use Rattle.std.specs.Prelude.{◌≡◌, ◌≢◌, ◌<◌, ◌^◌, ℕ, List, [], ◌∷◌, ◌++◌, take, Err, codes}
use Rattle.sha2.specs.Sha256.{sha256}
use Rattle.flow_state.specs.Firm.{AreFirm}
use Rattle.flow_state.specs.Rows.{Rows}
use Rattle.row_bytes.specs.declared.fault.RowsFault.{RowsFault}
use Rattle.row_bytes.specs.declared.fault.RowsFault.TheVariants as rows_faults
use Rattle.row_bytes.specs.Spelling.{number_8, rows_spelling}
use Rattle.row_bytes.specs.Tables.{AreRead, Fails, Spells, TakesMemory}
use Rattle.host_states.specs.declared.fault.StateFault.{StateFault}
use Rattle.host_states.specs.declared.fault.StateFault.TheVariants.{NoState, NotWhole, Rows as NotRows}
use Rattle.host_states.specs.declared.head.StateHead.{StateHead}

-- the line with which it begins
unfoldable pub first_line : List ℕ
first_line = codes "upsched state 1" ++ 10 ∷ []

-- whose state it is
abbrev pub head_spelling : StateHead → List ℕ
head_spelling h = number_8 h.epoch ++ (number_8 h.places ++ (number_8 h.before ++ (h.id ∷ h.members ∷ [])))

-- its numbers of eight bytes fit them
pub record FitsHead (h : StateHead) : Type 0 where
  pub epoch : h.epoch < 2 ^ 64
  pub places : h.places < 2 ^ 64
  pub before : h.before < 2 ^ 64

-- the sum of bytes: the first eight of their SHA-256 (FIPS 180-4, 6.2)
abbrev pub sum_of : List ℕ → List ℕ
sum_of bytes = take 8 (sha256 bytes)

-- all of a state but its sum, and the whole, where this spelling stands for its tables
abbrev pub told_bytes : StateHead → List ℕ → List ℕ
told_bytes h spelling = first_line ++ (head_spelling h ++ spelling)

abbrev pub framed : StateHead → List ℕ → List ℕ
framed h spelling = told_bytes h spelling ++ sum_of (told_bytes h spelling)

abbrev pub state_bytes : StateHead → Rows → List ℕ
state_bytes h rows = framed h (rows_spelling rows)

-- the bytes are whole, with this head and this spelling
pub record IsFramed (bytes : List ℕ) (h : StateHead) (spelling : List ℕ) : Type 0 where
  pub fits : FitsHead h
  pub parts : bytes ≡ framed h spelling

-- the bytes are the state of these tables, which commands could leave
abbrev pub IsState : List ℕ → StateHead → Rows → Type 0
IsState bytes h rows = (spelling : List ℕ) × IsFramed bytes h spelling × Spells spelling rows

-- the first fault of a spelling, or want of memory, which comes only where rows are
abbrev pub IsSpellingFault : List ℕ → RowsFault → Type 0
IsSpellingFault spelling why = Fails (TakesMemory spelling) (λ fault. AreRead spelling (Err fault)) why

-- why bytes are no state: they don't begin with the line, they are not whole, or their spelling has this fault
abbrev pub IsStateFault : List ℕ → StateFault → Type 0
IsStateFault bytes NoState = (rest : List ℕ) → bytes ≢ first_line ++ rest
IsStateFault bytes NotWhole = ((rest : List ℕ) × (bytes ≡ first_line ++ rest)) × ((h : StateHead) → (spelling : List ℕ) → ¬ IsFramed bytes h spelling)
IsStateFault bytes (NotRows why) = (h : StateHead) × (spelling : List ℕ) × IsFramed bytes h spelling × IsSpellingFault spelling why

-- the fault is want of memory
abbrev pub IsWant : StateFault → Type 0
IsWant (NotRows why) = why ≡ rows_faults.OutOfMemory
IsWant other = ⊥
