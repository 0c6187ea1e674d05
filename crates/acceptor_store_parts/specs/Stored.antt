-- What the tables hold, as rows of the store.
use Rattle.std.specs.Prelude.{◌≡◌, ◌⊎◌, ℕ, pos, List, [], ◌∷◌, map, Option, Some, None}
use Rattle.std.specs.List.{AllByRecursion}
use Rattle.ballots.specs.Ballots.{IsBallot}
use Rattle.ballots.specs.Limits.{IsPlace, IsValue}
use Rattle.ballots.specs.declared.letters.Cast.{Cast}
use Rattle.acceptor.specs.Content.{Content, IsSound}
use Rattle.sqlite.specs.declared.types.Value.TheVariants.{Null, Int, Blob}
use Rattle.sqlite.specs.Order.{Row}
use Rattle.sqlite.specs.Tree.{Trees}
use Rattle.acceptor_store_parts.specs.declared.Version.{Version}
use Rattle.acceptor_store_parts.specs.declared.Version.TheVariants.{First, Second, Third, Fourth}

-- the key of a row is its rowid, and the column of the key is NULL
abbrev pub number_row : ℕ → ℕ → Row
number_row id number = Int (pos id) ∷ Null ∷ Int (pos number) ∷ []

-- a number as a query shows it
abbrev pub number_shown : ℕ → ℕ → Row
number_shown id number = Int (pos id) ∷ Int (pos number) ∷ []

-- a vote
abbrev pub vote_row : ℕ × Cast → Row
vote_row v = Int (pos v.0) ∷ Null ∷ Int (pos v.1.ballot) ∷ Blob v.1.value ∷ []

-- a vote as a query shows it
abbrev pub vote_shown : ℕ × Cast → Row
vote_shown v = Int (pos v.0) ∷ Int (pos v.1.ballot) ∷ Blob v.1.value ∷ []

-- a learned value
abbrev pub learned_row : ℕ × List ℕ → Row
learned_row v = Int (pos v.0) ∷ Null ∷ Blob v.1 ∷ []

-- a learned value as a query shows it
abbrev pub learned_shown : ℕ × List ℕ → Row
learned_shown v = Int (pos v.0) ∷ Blob v.1 ∷ []

-- a fact
abbrev pub fact_row : ℕ × List ℕ → Row
fact_row v = Int (pos v.0) ∷ Null ∷ Blob v.1 ∷ []

-- a fact as a query shows it
abbrev pub fact_shown : ℕ × List ℕ → Row
fact_shown v = Int (pos v.0) ∷ Blob v.1 ∷ []

-- numbers with that of a version behind them
abbrev pub three : ℕ → ℕ → ℕ → List (ℕ × ℕ)
three number tried row = (0, tried) ∷ (1, row) ∷ (2, number) ∷ []

-- the table of numbers: row 0 is the ballot tried, row 1 the promised row, and from version 2 on row 2 the version's
-- number
abbrev pub numbers_of : Version → ℕ → ℕ → List (ℕ × ℕ)
numbers_of First tried row = (0, tried) ∷ (1, row) ∷ []
numbers_of Second tried row = three 2 tried row
numbers_of Third tried row = three 3 tried row
numbers_of Fourth tried row = three 4 tried row

-- the same as a query shows them
abbrev pub numbers_shown : Version → ℕ → ℕ → List Row
numbers_shown version tried row = map (λ e. number_shown e.0 e.1) (numbers_of version tried row)

-- the version has a table of learned values
abbrev pub KeepsLearned : Version → Type 0
KeepsLearned First = ⊥
KeepsLearned Second = Unit {0}
KeepsLearned Third = Unit {0}
KeepsLearned Fourth = Unit {0}

-- in version 1 nothing is learned, and from version 2 on tree 2 is the table of learned values
abbrev pub HasLearned : Version → Trees → Content → Type 0
HasLearned First db c = c.learned ≡ []
HasLearned Second db c = db 2 ≡ map learned_row c.learned
HasLearned Third db c = db 2 ≡ map learned_row c.learned
HasLearned Fourth db c = db 2 ≡ map learned_row c.learned

-- tables of a version: tree 0 is that of numbers, and tree 1 that of votes; of facts it says nothing
pub record AreTablesOf (version : Version) (db : Trees) (c : Content) : Type 0 where
  pub numbers : db 0 ≡ map (λ e. number_row e.0 e.1) (numbers_of version c.tried c.row)
  pub votes_are : db 1 ≡ map vote_row c.votes
  pub learned_are : HasLearned version db c
  pub sound : IsSound c

-- what the first row of a list has at its place
abbrev pub first_of : {V : Type 0} → List (ℕ × V) → Option V
first_of [] = None
first_of (v ∷ vs) = Some v.1

-- a number that a node keeps: 0, or a ballot
abbrev pub IsNumber : ℕ → Type 0
IsNumber n = (n ≡ 0) ⊎ IsBallot n

-- a vote that a node casts: a place of the log, a ballot and a short value
abbrev pub IsCast : ℕ × Cast → Type 0
IsCast v = IsPlace v.0 × IsBallot v.1.ballot × IsValue v.1.value

-- a value that a node learns: a place of the log and a short value
abbrev pub IsLearned : ℕ × List ℕ → Type 0
IsLearned v = IsPlace v.0 × IsValue v.1

-- content that a node writes
pub record IsOfNode (c : Content) : Type 0 where
  pub tried : IsNumber c.tried
  pub row : IsNumber c.row
  pub casts : AllByRecursion IsCast c.votes
  pub learned : AllByRecursion IsLearned c.learned
