-- What a handle holds, and what calls on one do.
use Rattle.std.specs.Prelude.{◌≡◌, ◌==◌, if◌then◌else◌, Option, Some, None}
use Rattle.upsched_c_node.specs.declared.handle.Handle.{Handle}
use Rattle.upsched_c_node.specs.declared.handle.Held.{Held}
use Rattle.upsched_c_node.specs.declared.status.Status.{Status}
use Rattle.upsched_c_node.specs.declared.status.Status.TheVariants as statuses

-- None where it is closed, or is no node's
abbrev pub held : Handle → Option Held
held h = h.owner.value

-- what calls answer to a handle that holds no node
abbrev pub without_node : Handle → Status
without_node h = if h.kind == 0 then statuses.Closed else statuses.OtherKind

-- what a call does by what a handle held before and after: one that held no node stays as it is and nothing is written,
-- and one that held a node holds one still, with what the call does to it
abbrev pub AsksHeld : {A : Type 0} → (Held → A → Held → A → Status → Type 0) → Option Held → Option Held → Handle → A → Handle → A → Status → Type 0
AsksHeld Does None _ h out new out' status = (status ≡ without_node h) × (new ≡ h) × (out' ≡ out)
AsksHeld Does (Some k) (Some after) h out new out' status = Does k out after out' status
AsksHeld Does (Some k) None h out new out' status = ⊥

-- a call is made on a handle and what it may write
abbrev pub Asks : {A : Type 0} → (Held → A → Held → A → Status → Type 0) → Handle → A → Handle → A → Status → Type 0
Asks Does h out new out' status = AsksHeld Does (held h) (held new) h out new out' status
