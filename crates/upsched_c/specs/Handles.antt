-- What a handle holds, and what calls on one do.
use Rattle.std.specs.Prelude.{◌≡◌, Option, Some, None}
use Rattle.upsched_c.specs.declared.handle.Handle.{Handle}
use Rattle.upsched_c.specs.declared.handle.Held.{Held}
use Rattle.upsched_c.specs.declared.status.Status.{Status}
use Rattle.upsched_c.specs.declared.status.Status.TheVariants as statuses

-- None where it is closed
abbrev pub held : Handle → Option Held
held h = h.owner.value

-- a handle is opened with a value: a closed one is open then, or memory is wanted; an open one stays as it is
abbrev pub Opens : Held → Option Held → Option Held → Status → Type 0
Opens value None new statuses.Done = new ≡ Some value
Opens value None new statuses.OutOfMemory = new ≡ None
Opens value None new _ = ⊥
Opens value (Some h) new status = (status ≡ statuses.Open) × (new ≡ Some h)

-- a call is made on a handle and what it may write: a closed one stays closed and nothing is written; an open one stays
-- open, with what the call does to what it holds
abbrev pub Asks : {A : Type 0} → (Held → A → Held → A → Status → Type 0) → Option Held → A → Option Held → A → Status → Type 0
Asks Does None out None out' status = (status ≡ statuses.Closed) × (out' ≡ out)
Asks Does None out (Some _) out' status = ⊥
Asks Does (Some h) out (Some k) out' status = Does h out k out' status
Asks Does (Some h) out None out' status = ⊥
