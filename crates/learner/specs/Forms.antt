-- How the proposals of a place are kept.
use Rattle.std.specs.Prelude.{List, [], ◌∷◌}
use Rattle.learner.specs.Tally.{Groups}
use Rattle.learner.specs.declared.groups.Form.{Form}
use Rattle.learner.specs.declared.groups.Form.TheVariants.{One, More}

-- the proposals, each with its voters
abbrev pub groups_of : Form → Groups
groups_of (One proposal voters) = (proposal, voters) ∷ []
groups_of (More rows) = rows.entries
