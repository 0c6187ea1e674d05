-- A node's post as text.
use Rattle.std.specs.Prelude.{List, ℕ, ◌++◌, codes, decimal}
use Rattle.watched_runs.specs.declared.post.Post.{Post}
use Rattle.watched_runs.specs.declared.post.Post.TheVariants.{Down, Idle, Prepares, Leads}

abbrev pub post_text : Post → List ℕ
post_text Down = codes "is down"
post_text Idle = codes "is idle"
post_text (Prepares ballot) = codes "prepares ballot " ++ decimal ballot
post_text (Leads ballot) = codes "leads ballot " ++ decimal ballot
