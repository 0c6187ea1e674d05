-- What is told of logs without commits.
use Rattle.std.specs.List.{list_all}
use Rattle.std.specs.Prelude.{Bool, not, ℕ, List, [], ◌∷◌, ◌++◌, codes, if◌then◌else◌}
use Rattle.upsched_store.specs.Surveys.{path_in}
use Rattle.upsched_store.specs.declared.found.Found.{Found}

-- the line of a log without commits, by the path of its database
abbrev pub commitless_line : List ℕ → List ℕ
commitless_line path = codes "upsched: log without commits: " ++ (path ++ (codes "-wal" ++ 10 ∷ []))

-- that of a node's files in a folder, where their log lacks commits
abbrev pub commitless_in : List ℕ → Found → List ℕ
commitless_in folder found = if found.lacks_commits then commitless_line (path_in folder found.number) else []

-- no log lacks them
abbrev pub all_commit : List Found → Bool
all_commit states = list_all (λ (found : Found). not found.lacks_commits) states
