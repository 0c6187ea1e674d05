-- How often each node's store failed, which is told whether or not its records are honest.
use Rattle.std.specs.Prelude.{◌≡◌, ◌≤◌, ◌+◌, ◌-◌, ◌^◌, ◌⊎◌, ℕ, List, ◌∷◌, Option, Some, None, Bool, true, false, map}
use Rattle.std.specs.Prelude.{slice_get, if◌then◌else◌, ◌==◌, ◌&&◌}
use Rattle.acceptor.specs.Faults.{HasRisen}
use Rattle.node.specs.declared.node.Node.{Ghosts}
use Rattle.world_events.specs.declared.event.Event.{Event}
use Rattle.world_events.specs.declared.event.Event.TheVariants as event
use Rattle.seats.specs.declared.answer.Answer.{Answer}
use Rattle.network_script.specs.declared.world.World.{World}
use Rattle.seats.specs.Occupant.{who_of}
use Rattle.network_script.specs.Worlds.{seats_of, letters_of}
use Rattle.network_script.specs.Along.{Along}
use Rattle.seats.specs.StoreFaults.{is_store_fault}

-- each node's count of failures, and whom each letter is to
pub record Counts : Type 0 where
  pub failures : List ℕ
  pub addressees : List ℕ

abbrev pub counts : {N : Type 0} {g : Ghosts N} → World N g → Counts
counts {N} {g} world = record {
  failures = map (λ seat. (who_of seat).failures) (seats_of world);
  addressees = map (λ letter. letter.to) (letters_of world);
}

-- the node that an event is of, if it is of one
abbrev pub called_by : List ℕ → Event → Option ℕ
called_by addressees (event.Lead k) = Some k
called_by addressees (event.Offer k value) = Some k
called_by addressees (event.Tell k to place) = Some k
called_by addressees (event.Deliver i) = slice_get addressees i
called_by addressees (event.DeliverThenCrash i) = slice_get addressees i
called_by addressees (event.Restart k) = Some k
called_by addressees (event.Release k now) = Some k
called_by addressees (event.Crash k) = Some k
called_by addressees other = None

-- an event lets no count fall. Where a store's fault is answered, the count of the node that it called rose, and else
-- none did
pub record CountNext (old : Counts) (event : Event) (answer : Answer) (new : Counts) : Type 0 where
  pub letters : (i n : ℕ) → slice_get old.addressees i ≡ Some n → slice_get new.addressees i ≡ Some n
  pub grow : (k before : ℕ) → slice_get old.failures k ≡ Some before → (after : ℕ) × (slice_get new.failures k ≡ Some after) × (before ≤ after)
  pub cause : is_store_fault answer ≡ true → (k : ℕ) × (before : ℕ) × (after : ℕ) × (called_by old.addressees event ≡ Some k)
      × (slice_get old.failures k ≡ Some before) × (slice_get new.failures k ≡ Some after) × HasRisen before after
  pub still : is_store_fault answer ≡ false → new.failures ≡ old.failures

-- the same of a run
abbrev pub CountRun : Counts → List Event → List Answer → Counts → Type 0
CountRun = Along CountNext

-- the node is this one
abbrev pub is_node : ℕ → Option ℕ → Bool
is_node k None = false
is_node k (Some n) = n == k

-- how many faults of node k's store a report has, by the letters that there are in the end
abbrev pub faults_of : ℕ → List ℕ → List Event → List Answer → ℕ
faults_of k addressees (event ∷ events) (answer ∷ answers) =
    (if is_store_fault answer && is_node k (called_by addressees event) then 1 else 0) + faults_of k addressees events answers
faults_of k addressees events answers = 0

-- no more faults of a node's store than its count rose by, while that is below its last value
abbrev pub FewFaults : Type 0
FewFaults =
    (old new : Counts) (events : List Event) (answers : List Answer) → CountRun old events answers new
    → (k before : ℕ) → slice_get old.failures k ≡ Some before
    → (after : ℕ) × (slice_get new.failures k ≡ Some after) × ((2 ^ 64 - 1 ≤ after) ⊎ (before + faults_of k new.addressees events answers ≤ after))
