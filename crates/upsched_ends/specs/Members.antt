-- The word that says how many members there are.
use Rattle.std.specs.Prelude.{◌≡◌, ℕ, ◌+◌, List, [], ◌∷◌}
use Rattle.ballots.specs.Members.{member_count}
use Rattle.ballots.specs.declared.members.Members.{Members}

-- the decimal digit of a number below 10
abbrev pub digit : ℕ → List ℕ
digit n = (48 + n) ∷ []

-- a word says how many members there are
abbrev pub NamesMembers : List ℕ → Members → Type 0
NamesMembers word members = word ≡ digit (member_count members)
