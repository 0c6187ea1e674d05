-- What an event does to a world, by what it asks of a node.
use Rattle.std.specs.Prelude.{◌≡◌, ◌<◌, ◌≤◌, ◌++◌, ◌⊎◌, ℕ, List, length, slice_index_or, slice_set}
use Rattle.ballots.specs.declared.letters.Letter.{Letter}
use Rattle.map_release.specs.declared.numbered.Numbered.{Numbered}
use Rattle.node.specs.declared.node.Node.{Ghosts}
use Rattle.seats.specs.Acts.{Acts}
use Rattle.seats.specs.Moves.{Ask}
use Rattle.seats.specs.declared.answer.Answer.{Answer}
use Rattle.seats.specs.declared.answer.Answer.TheVariants.{Refused}
use Rattle.seats.specs.declared.seat.Seat.{Seat}
use Rattle.world_events.specs.declared.event.Event.{Event}
use Rattle.world_events.specs.declared.refusal.EventRefusal.TheVariants.{NoLetter, NoNode}
use Rattle.network_script.specs.declared.world.World.{World}
use Rattle.network_script.specs.Counts.{CountNext, counts}
use Rattle.network_script.specs.Outward.{Seen}
use Rattle.network_script.specs.Seats.{AllKeepTrust}
use Rattle.network_script.specs.World.{released_by}
use Rattle.network_script.specs.Worlds.{AreHonest, Happens, letters_of, node_count, outputs_of, receivers_of, seats_of}

-- node k did what it was asked, and what it gave was added
pub record Went {N : Type 0} {g : Ghosts N} (old : World N g) (k : ℕ) (ask : Ask) (answer : Answer) (new : World N g) : Type 0 where
  pub before : Seat N g
  pub after : Seat N g
  pub letters : List Letter
  pub outputs : List Numbered
  pub acts : Acts before ask answer letters outputs after
  pub within : k < length (seats_of old)
  pub at : before ≡ slice_index_or (seats_of old) k before
  pub seats : seats_of new ≡ slice_set (seats_of old) k after
  pub sent : letters_of new ≡ letters_of old ++ letters
  pub released : outputs_of new ≡ outputs_of old ++ released_by k outputs
  pub receivers : receivers_of new ≡ receivers_of old

-- a world has the nodes, letters, outputs and modems that it had
abbrev pub IsUnchanged : {N : Type 0} {g : Ghosts N} → World N g → World N g → Type 0
IsUnchanged old new =
    (seats_of new ≡ seats_of old) × (letters_of new ≡ letters_of old) × (outputs_of new ≡ outputs_of old) × (receivers_of new ≡ receivers_of old)

-- node k, if there is one, is asked so
abbrev pub Asks : {N : Type 0} {g : Ghosts N} → World N g → ℕ → Ask → Answer → World N g → Type 0
Asks old k ask answer new = ((length (seats_of old) ≤ k) × (answer ≡ Refused NoNode) × IsUnchanged old new) ⊎ Went old k ask answer new

-- letter i, if there is one, comes to the node that it is to, of which it asks so
abbrev pub Delivers : {N : Type 0} {g : Ghosts N} → World N g → ℕ → (Letter → Ask) → Answer → World N g → Type 0
Delivers old i ask answer new =
    ((length (letters_of old) ≤ i) × (answer ≡ Refused NoLetter) × IsUnchanged old new)
    ⊎ ((l : Letter) × (k : ℕ) × (i < length (letters_of old)) × (l ≡ slice_index_or (letters_of old) i l) × (k ≡ l.to) × Asks old k (ask l) answer new)

-- what an event owes
pub record HappensTo {N : Type 0} {g : Ghosts N} (old : World N g) (event : Event) (answer : Answer) (new : World N g) : Type 0 where
  pub honesty : AreHonest new → AreHonest old
  pub trust : AllKeepTrust (seats_of old) (seats_of new)
  pub members : node_count new ≡ node_count old
  pub next : AreHonest new → Happens old event answer new
  pub counted : CountNext (counts old) event answer (counts new)
  pub seen : Seen old event answer new
