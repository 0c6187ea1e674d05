-- What a journal holds, by its bytes.
use Rattle.std.specs.Prelude.{ℕ, ◌+◌, ◌==◌, if◌then◌else◌, nat_eq, List, [], ◌∷◌, codes, filter, length}
use Rattle.std.specs.List.{starts_with}
use Rattle.node_journal.specs.declared.counts.Counts.{Counts}

-- how a life begins: an empty line, and the line that says who the node is
abbrev pub life_begin : List ℕ
life_begin = 10 ∷ codes "node "

-- how many lives a journal holds: at how many places one begins
abbrev pub lives_in : List ℕ → ℕ
lives_in [] = 0
lives_in (byte ∷ rest) = (if starts_with nat_eq (byte ∷ rest) life_begin then 1 else 0) + lives_in rest

-- how many lines it holds: how many line ends
abbrev pub lines_in : List ℕ → ℕ
lines_in text = length (filter (λ byte. byte == 10) text)

-- both
abbrev pub counts_in : List ℕ → Counts
counts_in text = record { lives = lives_in text; lines = lines_in text }
