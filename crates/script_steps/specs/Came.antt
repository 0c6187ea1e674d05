-- Which letters of a run came.
use Rattle.std.specs.Prelude.{ℕ, List, [], ◌∷◌, ◌++◌, drop, length, map, nat_lt, if◌then◌else◌}
use Rattle.ballots.specs.declared.letters.Letter.{Letter}
use Rattle.script_steps.specs.declared.name.About.{About}
use Rattle.script_steps.specs.Names.{about_of}

-- from whom, to whom, and of what kind each letter that was sent is, and the numbers of those that came, in order
pub record Came : Type 0 where
  pub sent : List About
  pub came : List ℕ

abbrev pub nothing : Came
nothing = record { sent = []; came = [] }

-- these are all letters now
abbrev pub sends : List Letter → Came → Came
sends letters so_far = record { sent = so_far.sent ++ map about_of (drop (length so_far.sent) letters); came = so_far.came }

-- the letter of this number comes, if it was sent
abbrev pub comes : ℕ → Came → Came
comes i so_far =
    record { sent = so_far.sent; came = if nat_lt i (length so_far.sent) then so_far.came ++ i ∷ [] else so_far.came }
