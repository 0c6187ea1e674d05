-- The state at the start of an epoch, and what a host keeps of states.
use Rattle.std.specs.Prelude.{◌≡◌, ℕ, ◌+◌, List, [], ◌∷◌, ◌++◌, length, Option, Some, None}
use Rattle.flow_state.specs.Rows.{Rows}
use Rattle.host_states.specs.States.{IsState}
use Rattle.host_states.specs.declared.head.StateHead.{StateHead}
use Rattle.epochs.specs.Epochs.{values_of}
use Rattle.epochs.specs.Scheduling.{tables_after}

-- the bytes are the state that member me of so many tells at the start of the epoch behind these full ones
abbrev pub IsStateOf : (me members places : ℕ) → List (List (List ℕ)) → List ℕ → Type 0
IsStateOf me members places passed bytes =
    IsState bytes (record { epoch = length passed + 1; places = places; before = length (values_of places passed); id = me; members = members }) (tables_after (values_of places passed))

-- whose states they are, and those at the start of its own epoch and of the next one, where they are kept
pub record StatesView : Type 0 where
  pub id : ℕ
  pub members : ℕ
  pub own : Option (List ℕ)
  pub next : Option (List ℕ)

-- at the start of the first epoch
abbrev pub no_states : (me members : ℕ) → StatesView
no_states me members = record { id = me; members = members; own = None; next = None }

-- the next epoch is its own one
abbrev pub gone_on : StatesView → StatesView
gone_on s = record s { own = s.next; next = None }

-- what is told beside tables
abbrev pub head_in : StatesView → (epoch places before : ℕ) → StateHead
head_in s epoch places before = record { epoch = epoch; places = places; before = before; id = s.id; members = s.members }

-- the bytes are the state of these tables at the start of an epoch
abbrev pub IsMade : StatesView → (epoch places before : ℕ) → Rows → List ℕ → Type 0
IsMade s epoch places before rows bytes = IsState bytes (head_in s epoch places before) rows

-- the state at the start of its own epoch, behind these; none is kept of the first one
abbrev pub IsOwnState : StatesView → ℕ → List (List (List ℕ)) → Option (List ℕ) → Type 0
IsOwnState s places passed None = passed ≡ []
IsOwnState s places passed (Some bytes) = IsStateOf s.id s.members places passed bytes

-- that of the next one, where it is kept
abbrev pub IsNextState : StatesView → ℕ → List (List (List ℕ)) → Option (List ℕ) → Type 0
IsNextState s places known None = Unit {0}
IsNextState s places known (Some bytes) = IsStateOf s.id s.members places known bytes

-- what is kept of a host that passed these epochs, and knows these values of its own one
pub record AreStates (places : ℕ) (passed : List (List (List ℕ))) (own : List (List ℕ)) (s : StatesView) : Type 0 where
  pub own_state : IsOwnState s places passed s.own
  pub next_state : IsNextState s places (passed ++ own ∷ []) s.next
