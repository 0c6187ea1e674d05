use Rattle.std.proofs.Common.{ℕ, List, ◌∙◌, subst, IfOk, MatchOption}
use Rattle.log_ties.specs.Ties.{HasCommits}
use Rattle.sqlite_wal.specs.Reads.{IsClean}
use Rattle.log_ties.proofs.commits.commits_of.Goals as goal

pub returns-then-is_signed-clause-counted : goal.returns-then-is_signed-clause-counted
returns-then-is_signed-clause-counted g c =
    let seen = c.read_head.ensures.same.seen ∙ c.len.ensures.seen in
    let P : List ℕ → Type 0 = λ (l : List ℕ). IfOk c.commits_under.result (λ found. IsClean g.D.Disk c.commits_under.new.log → MatchOption found ((n : ℕ) → ¬ HasCommits l n) (HasCommits l)) in
    subst P seen c.commits_under.ensures.counted
