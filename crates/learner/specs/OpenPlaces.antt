-- How the open places are kept.
use Rattle.std.specs.Prelude.{ℕ, ◌*◌, List, [], ◌∷◌}
use Rattle.learner.specs.Tally.{Groups}
use Rattle.learner.specs.declared.open_places.Form.{Form}
use Rattle.learner.specs.declared.open_places.Form.TheVariants.{Nothing, One, More}

-- the open places, each with the proposals that were voted for there
abbrev pub entries_of : Form → List (ℕ × Groups)
entries_of Nothing = []
entries_of (One place groups) = (place, groups) ∷ []
entries_of (More rows) = rows.entries
