use Rattle.std.proofs.lemmas.Bool.{false≢true}
use Rattle.log_ties.proofs.CommitLemmas.{some_commits}
use Rattle.log_ties.proofs.ReadLemmas.{at_none, at_some}
use Rattle.log_ties.proofs.commits.has_commit.Goals as goal

pub returns-in-Some-clause-so : goal.returns-in-Some-clause-so
returns-in-Some-clause-so g c clean =
    some_commits (g.D.Disk.seen c.args.log.now) c.in-Some.count (at_some _ _ c.in_ok-count.field-0 _ c.in-Some.is (c.in_ok-count.ensures.counted clean))

pub returns-in-None-clause-so : goal.returns-in-None-clause-so
returns-in-None-clause-so g c clean =
    let none = at_none _ _ c.in_ok-count.field-0 c.in-None.is (c.in_ok-count.ensures.counted clean) in
    (λ yes'. absurd (false≢true yes'), λ found. absurd (none found.0 found.2))
