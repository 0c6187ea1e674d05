use Rattle.std.proofs.Common.{rules, arith, ◌≡◌, ◌≤◌, length, List, ℕ, subst}
use Rattle.std.proofs.lemmas.Bool.{false≢true}
use Rattle.sqlite_wal.specs.Recovery.{header}
use Rattle.log_ties.proofs.TieLemmas.{damaged_else, whole_if_written}
use Rattle.log_ties.proofs.tie.tie_beside.Goals as goal

pub returns-then-is_being_written-clause-told : goal.returns-then-is_being_written-clause-told
returns-then-is_being_written-clause-told g c clean db there =
    let log = g.D.Disk.seen c.args.log.now in
    let head : c.in_ok-head.head ≡ header log = subst (λ (l : List ℕ). c.in_ok-head.head ≡ header l) c.len.ensures.seen (c.in_ok-head.ensures.head clean) in
    let long : 32 ≤ length log = omega (arith, c.in_ok-len.ensures.len (c.read_head.ensures.same.clean clean), c.if-len-lt-HEADER_LEN.false) in
    whole_if_written log db c.in_ok-head.head there long head (λ signed. false≢true (c.if-not-is_signed.ensures.1 signed)) (search rules)

pub returns-else-is_being_written-clause-told : goal.returns-else-is_being_written-clause-told
returns-else-is_being_written-clause-told g c clean db there =
    let log = g.D.Disk.seen c.args.log.now in
    let head : c.in_ok-head.head ≡ header log = subst (λ (l : List ℕ). c.in_ok-head.head ≡ header l) c.len.ensures.seen (c.in_ok-head.ensures.head clean) in
    let long : 32 ≤ length log = omega (arith, c.in_ok-len.ensures.len (c.read_head.ensures.same.clean clean), c.if-len-lt-HEADER_LEN.false) in
    damaged_else log db c.in_ok-head.head there long head (λ signed. false≢true (c.if-not-is_signed.ensures.1 signed)) (search rules)
