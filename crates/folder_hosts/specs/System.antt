-- The databases of a folder of the operating system.
use Rattle.std.specs.Prelude.{ℕ}
use Rattle.ballots.specs.Members.{member_count}
use Rattle.folder_hosts.specs.declared.system.DatabasesAt.{DatabasesAt}

-- the number of its nodes, and of how many each is one
abbrev pub member_at : DatabasesAt → ℕ × ℕ
member_at databases = (databases.id, member_count databases.members)
