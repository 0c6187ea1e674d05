-- Why a node over files of its own crashed.
use Rattle.std.specs.Prelude.{◌≡◌, ◌<◌, ◌↔◌, ◌++◌, ◌∷◌, ℕ, List, [], Option, Some, None, IsSome, IsTrue, codes}
use Rattle.acceptor_store.specs.Linked.{Linked}
use Rattle.stored_nodes.specs.declared.start.FileFault.{FileFault}
use Rattle.stored_nodes.specs.declared.start.FileFault.TheVariants.{NoRoom, Failed}
use Rattle.upsched_store.specs.declared.crash.CrashCause.{CrashCause}
use Rattle.upsched_store.specs.declared.crash.CrashCause.TheVariants.{Memory, Files}
use Rattle.upsched_store.specs.Starts.{going_on}
use Rattle.upsched_store.specs.Surveys.{why_text}

-- records that failed so often, where so many calls of their files found no room, fell for this: one of these is enough
abbrev pub FailsBy : ℕ → FileFault → Type 0
FailsBy refused NoRoom = 0 < refused
FailsBy refused Failed = refused ≡ 0
FailsBy refused other = ⊥

-- the cause of a crash, by how often the records failed and how many calls of their files found no room
abbrev pub IsCause : ℕ → ℕ → CrashCause → Type 0
IsCause failures refused Memory = failures ≡ 0
IsCause failures refused (Files why) = (0 < failures) × FailsBy refused why

-- how many calls found no room in a store that was given back, if one was
abbrev pub refused_in : {S : Type 0} → (S → ℕ) → Option S → ℕ
refused_in refusals None = 0
refused_in refusals (Some store) = refusals store

-- records that are given up tell this cause
abbrev pub TellsCause : {S : Type 0} → (S → ℕ) → Linked S → CrashCause → Type 0
TellsCause {S} refusals records cause =
    (given : Option S) × (IsSome given ↔ IsTrue records.is_linked) × IsCause records.failures (refused_in refusals given) cause

-- the text of a cause
abbrev pub cause_text : CrashCause → List ℕ
cause_text Memory = codes "memory"
cause_text (Files why) = why_text why

-- the line of a crash, by the path of the file
abbrev pub crash_line : List ℕ → CrashCause → List ℕ
crash_line path cause = going_on (codes "upsched: crashed: ") path (cause_text cause ++ 10 ∷ [])
