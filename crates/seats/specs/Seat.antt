-- A node with its flag, as the written world sees it.
use Rattle.std.specs.Prelude.{◌≡◌, None, Result, Ok, Err, Bool, true, false}
use Rattle.node.specs.View.{View, Standing}
use Rattle.node.specs.View.Standing.{Running, Stopped}
use Rattle.node.specs.Calls.{Who}
use Rattle.proposer.specs.declared.fault.NodeFault.{NodeFault}
use Rattle.proposer.specs.declared.fault.NodeFault.TheVariants.{OutOfMemory, StoreRefused, Down}

-- what a crash leaves: the content, and a write in doubt
abbrev pub crashed : Standing → Standing
crashed (Running view) = Stopped view.content None
crashed (Stopped c doubt) = Stopped c doubt

-- what a node may be in the world: one that is up runs, as it stands for itself, and one that isn't has crashed,
-- whatever it is for itself
abbrev pub Shown : Bool → (Standing → Type 0) → Standing → Type 0
Shown true may s = may s × (view : View) × (s ≡ Running view)
Shown false may s = (t : Standing) × may t × (s ≡ crashed t)

-- a node stays up after a fault, unless it lacked memory or its store failed
abbrev pub survives : NodeFault → Bool
survives OutOfMemory = false
survives StoreRefused = false
survives Down = false
survives other = true

abbrev pub stays_up : {T : Type 0} → Result T NodeFault → Bool
stays_up (Ok given) = true
stays_up (Err fault) = survives fault

-- it is the same member of as many
abbrev pub SameMember : Who → Who → Type 0
SameMember old new = (new.id ≡ old.id) × (new.members ≡ old.members)
