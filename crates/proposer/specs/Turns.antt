-- What a proposer does in a turn.
use Rattle.std.specs.Prelude.{◌⊎◌, ℕ, ◌+◌, ◌-◌, ◌*◌, ◌<◌, ◌≤◌, max, Bool, false, ◌&&◌, not, if◌then◌else◌, ◌==◌, nat_eq}
use Rattle.std.specs.Prelude.{nat_lt, List, [], ◌∷◌, length, Some, Result, Ok, Err}
use Rattle.std.specs.List.{list_any}
use Rattle.ballots.specs.Ballots.{IsLeastAbove, NoneAbove}
use Rattle.ballots.specs.Limits.{most_places, longest_value}
use Rattle.ballots.specs.Voting.{count_below}
use Rattle.ballots.specs.declared.letters.Cast.{Cast}
use Rattle.ballots.specs.declared.letters.Letter.{Letter}
use Rattle.ballots.specs.declared.letters.Note.TheVariants.{Accept, Prepare}
use Rattle.acceptor.specs.Content.{Content, promised, after_write}
use Rattle.acceptor.specs.Content.Write.{Tries}
use Rattle.acceptor.specs.Found.{Findable, Holds, HoldsEither}
use Rattle.proposer.specs.Joining.{join, place_after}
use Rattle.proposer.specs.Letters.{to_all, proposals}
use Rattle.proposer.specs.declared.role.Role.{Role}
use Rattle.proposer.specs.declared.role.Role.TheVariants.{Idle, Preparing, Leading}
use Rattle.proposer.specs.declared.fault.NodeFault.{NodeFault as Fault}

-- a turn: the role that it leaves and the letters that it sends
pub record Turn : Type 0 where
  pub role : Role
  pub letters : List Letter

-- nothing changes and nothing is sent
abbrev pub stays : Role → Turn
stays role = record { role = role; letters = [] }

-- these nodes are more than half of the members
abbrev pub are_majority : ℕ → List ℕ → Bool
are_majority members nodes = nat_lt members (2 * count_below (λ n. list_any (nat_eq n) nodes) members)

-- after one more promise of ballot b was counted, a majority leads: it proposes again what was reported, and fills the
-- gaps (Lamport, Paxos Made Simple, section 3)
abbrev pub after_promise : ℕ → ℕ → ℕ → ℕ → List ℕ → List (ℕ × Cast) → Turn
after_promise members me b q counted joined =
    if are_majority members counted
    then record { role = Leading b (place_after q joined); letters = proposals members me b joined q (place_after q joined - q) }
    else stays (Preparing b q counted joined)

-- whether a promise of ballot b for the places from q on, from node n, is counted: the node's first of the ballot that
-- is prepared
abbrev pub is_counted : Role → ℕ → ℕ → ℕ → Bool
is_counted (Preparing c place counted joined) b q n = b == c && q == place && not (list_any (nat_eq n) counted)
is_counted Idle b q n = false
is_counted (Leading c next) b q n = false

-- a promise of ballot b for the places from q on, from node n, counts once and only for the ballot that is prepared
abbrev pub promise : ℕ → ℕ → Role → ℕ → ℕ → List (ℕ × Cast) → ℕ → Turn
promise members me (Preparing c place counted joined) b q votes n =
    if b == c && q == place && not (list_any (nat_eq n) counted)
    then after_promise members me b q (n ∷ counted) (join joined votes)
    else stays (Preparing c place counted joined)
promise members me Idle b q votes n = stays Idle
promise members me (Leading c next) b q votes n = stays (Leading c next)

-- a value is offered to be proposed at the next place
abbrev pub offer : ℕ → ℕ → Role → List ℕ → Result Turn Fault
offer members me (Leading b next) v =
    if nat_lt longest_value (length v) then Err Fault.ValueTooLong
    else if nat_lt most_places next then Err Fault.LogFull
    else Ok record { role = Leading b (next + 1); letters = to_all members me (Accept b next v) }
offer members me Idle v = Err Fault.NotLeading
offer members me (Preparing b q counted joined) v = Err Fault.NotLeading

-- no ballot that a node with these records has tried, promised or heard of is above this
abbrev pub limit : Content → ℕ → ℕ
limit c hint = max c.tried (max (promised c) hint)

-- ballot b is tried for the places from q on
abbrev pub tries : ℕ → ℕ → ℕ → ℕ → Turn
tries members me b q = record { role = Preparing b q [] []; letters = to_all members me (Prepare b q) }

-- b is the ballot that node me leads with over these records, whatever they hold
abbrev pub IsNextBallot : Findable → ℕ → ℕ → ℕ → Type 0
IsNextBallot found hint me b = (c : Content) → Holds found c → IsLeastAbove (limit c hint) me b

-- why a node doesn't try to lead after a prefix of so many places
abbrev pub DeclinesToLead : Findable → ℕ → ℕ → ℕ → Fault → Type 0
DeclinesToLead found hint me prefix Fault.LogFull = most_places ≤ prefix
DeclinesToLead found hint me prefix Fault.RoundsSpent = (prefix < most_places) × ((c : Content) → Holds found c → NoneAbove (limit c hint) me)
DeclinesToLead found hint me prefix Fault.OutOfMemory = prefix < most_places
DeclinesToLead found hint me prefix Fault.StoreRefused = prefix < most_places
DeclinesToLead found hint me prefix Fault.Down = prefix < most_places
DeclinesToLead found hint me prefix other = ⊥

-- the write in doubt of a broken store is that of the next ballot, if there is any
abbrev pub MayHaveTried : Findable → Findable → ℕ → ℕ → Type 0
MayHaveTried old new hint me = (c : Content) → Holds old c → HoldsEither new c c ⊎ ((b : ℕ) × IsLeastAbove (limit c hint) me b × HoldsEither new c (after_write c (Some (Tries b))))
