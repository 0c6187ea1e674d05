-- A node's writes as bytes: what each says, and the content that they lead to.
use Rattle.std.specs.Prelude.{◌≡◌, ℕ, ◌≤◌, List, [], ◌∷◌, Option, Some, None, MatchOption, take, slice_get}
use Rattle.std.specs.Int.{w64, from_be_bytes}
use Rattle.ballots.specs.Ballots.{IsBallot}
use Rattle.ballots.specs.Limits.{IsPlace, longest_value}
use Rattle.acceptor.specs.Content.{Content, Write, after_write}
use Rattle.acceptor.specs.Content.Write.{Tries, Promises, Votes, Learns}
use Rattle.node_writes.specs.declared.write_bytes.WriteBytes.{WriteBytes}

abbrev pub ballot_in : WriteBytes → ℕ
ballot_in r = from_be_bytes w64 r.ballot

abbrev pub place_in : WriteBytes → ℕ
place_in r = from_be_bytes w64 r.place

abbrev pub value_in : WriteBytes → List ℕ
value_in r = take r.value_len r.value

-- they have this ballot, this place of the log, this value
abbrev pub HasBallot : WriteBytes → ℕ → Type 0
HasBallot r b = (ballot_in r ≡ b) × IsBallot b

abbrev pub HasPlace : WriteBytes → ℕ → Type 0
HasPlace r p = (place_in r ≡ p) × IsPlace p

abbrev pub HasValue : WriteBytes → List ℕ → Type 0
HasValue r v = value_in r ≡ v

-- the bytes spell a write, or that there is none: by their number, and the fields that it has
abbrev pub Spells : WriteBytes → Option Write → Type 0
Spells r None = r.kind ≡ 0
Spells r (Some (Tries b)) = (r.kind ≡ 1) × HasBallot r b
Spells r (Some (Promises b)) = (r.kind ≡ 2) × HasBallot r b
Spells r (Some (Votes p cast)) = (r.kind ≡ 3) × HasBallot r cast.ballot × HasPlace r p × HasValue r cast.value
Spells r (Some (Learns p v)) = (r.kind ≡ 4) × HasPlace r p × HasValue r v

-- the same of a node's; no value is longer than the log's
abbrev pub SpellsOf : ℕ → WriteBytes → Option Write → Type 0
SpellsOf id r write = (r.node ≡ id) × (r.value_len ≤ longest_value) × Spells r write

-- they spell no write of the node
abbrev pub IsStrange : ℕ → WriteBytes → Type 0
IsStrange id r = (write : Option Write) → ¬ SpellsOf id r write

-- the writes of a node, in order, lead from a content to another
abbrev pub LeadTo : ℕ → List WriteBytes → Content → Content → Type 0
LeadTo id [] c last = last ≡ c
LeadTo id (r ∷ rs) c last = (write : Option Write) × SpellsOf id r write × LeadTo id rs (after_write c write) last

-- one of them spells no write of the node
abbrev pub HasStrange : ℕ → List WriteBytes → Type 0
HasStrange id rs = (k : ℕ) × MatchOption (slice_get rs k) ⊥ (IsStrange id)
