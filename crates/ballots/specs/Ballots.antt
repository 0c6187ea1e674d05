-- Ballot numbers: round * 8 + node, where rounds begin at 1, so that 0 means no ballot.
use Rattle.std.specs.Prelude.{◌≡◌, ℕ, ◌%◌, ◌^◌, ◌<◌, ◌≤◌, Option, Some, None}

-- the node whose ballot b is
abbrev pub ballot_node : ℕ → ℕ
ballot_node b = b % 8

-- b is a ballot of the node: its round is 1 to 2^40 - 1
abbrev pub IsBallotOf : ℕ → ℕ → Type 0
IsBallotOf node b = (8 ≤ b) × (b < 2 ^ 43) × (ballot_node b ≡ node)

-- b is a ballot, of one of the nodes 0 to 4
abbrev pub IsBallot : ℕ → Type 0
IsBallot b = (ballot_node b < 5) × IsBallotOf (ballot_node b) b

-- b is the least ballot of the node above the limit
abbrev pub IsLeastAbove : ℕ → ℕ → ℕ → Type 0
IsLeastAbove limit node b = IsBallotOf node b × (limit < b) × ((c : ℕ) → IsBallotOf node c → limit < c → b ≤ c)

-- the node has no ballot above the limit
abbrev pub NoneAbove : ℕ → ℕ → Type 0
NoneAbove limit node = (c : ℕ) → IsBallotOf node c → c ≤ limit

-- ballots of two nodes differ
abbrev pub BallotsDiffer : Type 0
BallotsDiffer = (m n b c : ℕ) → IsBallotOf m b → IsBallotOf n c → b ≡ c → m ≡ n

-- the number of a ballot, or 0 where there is none
abbrev pub number_of : Option ℕ → ℕ
number_of None = 0
number_of (Some b) = b
