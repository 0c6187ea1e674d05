-- What is kept of the letters of a run.
use Rattle.std.specs.Prelude.{◌≡◌, ◌<◌, ◌≤◌, ℕ, Bool, false, not, ◌&&◌, List, All, Option, Some, None, length}
use Rattle.std.specs.Prelude.{slice_get, take}
use Rattle.script_steps.specs.declared.kept.Sent.{Sent}
use Rattle.script_steps.specs.declared.kept.Passed.{Passed}
use Rattle.script_steps.specs.declared.name.Parts.{Parts}
use Rattle.ballots.specs.declared.letters.Letter.{Letter}
use Rattle.script_steps.specs.declared.name.Name.{Name}
use Rattle.script_steps.specs.Names.{fits_at, has_come, has_parts, waiting}

-- the letter of this number, if it was sent, hasn't come and has these parts
abbrev pub waits : Parts → Option Sent → Bool
waits parts None = false
waits parts (Some sent) = not sent.came && has_parts parts sent.about

abbrev pub waits_at : Parts → List Sent → ℕ → Bool
waits_at parts sent i = waits parts (slice_get sent i)

-- of the letters below a number that was sent none waits that has these parts
pub record IsPassed (sent : List Sent) (passed : Passed) : Type 0 where
  pub within : passed.below ≤ length sent
  pub none : (i : ℕ) → i < passed.below → waits_at passed.parts sent i ≡ false

-- all that came were sent, each letter says whether it came, and what was passed over is still to be passed over
pub record AreKept (sent : List Sent) (came : List ℕ) (over : List Passed) : Type 0 where
  pub sent_before : All (λ i. i < length sent) came
  pub marked : (i : ℕ) (s : Sent) → slice_get sent i ≡ Some s → s.came ≡ has_come came i
  pub passed : All (IsPassed sent) over

-- the letter of this number, if it was sent, hasn't come and has all that is named
abbrev pub is_waiting : Option Sent → Bool
is_waiting None = false
is_waiting (Some sent) = not sent.came

abbrev pub waits_and_fits : Name → List Letter → List Sent → ℕ → Bool
waits_and_fits name letters sent i = is_waiting (slice_get sent i) && fits_at name letters i

-- the letters that are listed are those below a number, without the first that came
pub record AreListed (count : ℕ) (came listed : List ℕ) (counted taken : ℕ) : Type 0 where
  pub below : counted ≤ count
  pub within : taken ≤ length came
  pub listed_are : listed ≡ waiting counted (take taken came)
