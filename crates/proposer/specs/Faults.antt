-- How a node tells what its store did.
use Rattle.std.specs.Prelude.{◌≡◌, ℕ, ◌≤◌, Bool, true, false, Result, Ok, Err, IfErr}
use Rattle.acceptor.specs.Faults.{HasRisen}
use Rattle.acceptor.specs.declared.records.RecordsFault.{RecordsFault}
use Rattle.acceptor.specs.declared.records.RecordsFault.TheVariants.{Refused, Broken, OutOfMemory}
use Rattle.proposer.specs.declared.fault.NodeFault.{NodeFault as Fault}

-- the number that stands for a fault
abbrev pub node_fault_number : Fault → ℕ
node_fault_number Fault.NotLeading = 1
node_fault_number Fault.LogFull = 2
node_fault_number Fault.RoundsSpent = 3
node_fault_number Fault.ValueTooLong = 4
node_fault_number Fault.OutOfMemory = 5
node_fault_number Fault.StoreRefused = 6
node_fault_number Fault.Down = 7

-- the fault of a node whose store failed so
abbrev pub told : RecordsFault → Fault
told Refused = Fault.StoreRefused
told Broken = Fault.Down
told OutOfMemory = Fault.OutOfMemory

-- a fault that comes only where the store failed
abbrev pub IsStoreStop : Fault → Type 0
IsStoreStop Fault.StoreRefused = Unit {0}
IsStoreStop Fault.Down = Unit {0}
IsStoreStop other = ⊥

-- the call changed nothing in the records
abbrev pub IsHarmlessStop : Fault → Type 0
IsHarmlessStop Fault.Down = ⊥
IsHarmlessStop other = Unit {0}

-- why a node may not lead: whether it leads, and a value, are no matter
abbrev pub IsOfLead : Fault → Type 0
IsOfLead Fault.NotLeading = ⊥
IsOfLead Fault.ValueTooLong = ⊥
IsOfLead other = Unit {0}

-- why an offer may fail: it reads no records
abbrev pub IsOfOffer : Fault → Type 0
IsOfOffer Fault.RoundsSpent = ⊥
IsOfOffer Fault.StoreRefused = ⊥
IsOfOffer Fault.Down = ⊥
IsOfOffer other = Unit {0}

-- the store didn't fail
abbrev pub IsQuietStop : {T : Type 0} → Result T Fault → Type 0
IsQuietStop (Ok _) = Unit {0}
IsQuietStop (Err Fault.StoreRefused) = ⊥
IsQuietStop (Err Fault.Down) = ⊥
IsQuietStop (Err other) = Unit {0}

-- the count rises where the store failed, and else stays
abbrev pub CountsStops : {T : Type 0} → Result T Fault → ℕ → ℕ → Type 0
CountsStops result old new = (old ≤ new) × IfErr result (λ fault. IsStoreStop fault → HasRisen old new) × (IsQuietStop result → new ≡ old)

-- Down is told of a store that broke, and StoreRefused of one that did not
abbrev pub BreaksByStop : {T : Type 0} → Result T Fault → Bool → Bool → Type 0
BreaksByStop (Err Fault.Down) old new = new ≡ true
BreaksByStop (Err Fault.StoreRefused) old new = (old ≡ false) × (new ≡ false)
BreaksByStop other old new = new ≡ old

-- the answer to a lead where no ballot is left: RoundsSpent, unless the store failed, or a read of the ballots found no
-- memory
abbrev pub TellsSpent : {T : Type 0} → (Lacks : Type 0) → Result T Fault → Type 0
TellsSpent Lacks (Err Fault.RoundsSpent) = Unit {0}
TellsSpent Lacks (Err Fault.StoreRefused) = Unit {0}
TellsSpent Lacks (Err Fault.Down) = Unit {0}
TellsSpent Lacks (Err Fault.OutOfMemory) = Lacks
TellsSpent Lacks other = ⊥
