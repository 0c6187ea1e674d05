-- Who prepares and who leads.
use Rattle.std.specs.Prelude.{Bool, true, false, ◌==◌, Option, Some, None}
use Rattle.proposer.specs.declared.role.Role.{Role}
use Rattle.proposer.specs.declared.role.Role.TheVariants.{Idle as IdleRole, Preparing, Leading}
use Rattle.node.specs.View.{Standing}
use Rattle.node.specs.View.Standing.{Running, Stopped}
use Rattle.watched_runs.specs.declared.post.Post.{Post}
use Rattle.watched_runs.specs.declared.post.Post.TheVariants.{Down, Idle, Prepares, Leads}

-- the post of a role
abbrev pub post_of : Role → Post
post_of IdleRole = Idle
post_of (Preparing ballot place counted joined) = Prepares ballot
post_of (Leading ballot next) = Leads ballot

-- the post of a node of the world. Where there is none, it is idle
abbrev pub post_at : Option Standing → Post
post_at (Some (Running view)) = post_of view.role
post_at (Some (Stopped c doubt)) = Down
post_at None = Idle

-- whether two posts are one
abbrev pub same_post : Post → Post → Bool
same_post Down Down = true
same_post Idle Idle = true
same_post (Prepares old) (Prepares new) = old == new
same_post (Leads old) (Leads new) = old == new
same_post old new = false

-- the post after an event, where it isn't the one before
abbrev pub changed_if : Bool → Post → Option Post
changed_if true after = None
changed_if false after = Some after

abbrev pub changed : (before after : Post) → Option Post
changed before after = changed_if (same_post before after) after
