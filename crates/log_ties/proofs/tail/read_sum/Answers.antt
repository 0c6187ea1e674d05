use Rattle.std.proofs.Common.{rules, arith, ◌≡◌, List, ℕ, length, sym, ◌∙◌, ap}
use Rattle.sqlite_wal.specs.Format.{part, stored_sum}
use Rattle.sqlite_wal.proofs.PartLemmas.{held_is_part}
use Rattle.log_ties.proofs.tail.read_sum.Goals as goal

pub returns-clause-sum : goal.returns-clause-sum
returns-clause-sum g c clean =
    let log = g.D.Disk.seen c.args.log.now in
    let len : length c.read_at.new.buf ≡ 8 = search rules in
    let read : part log c.args.at 8 ≡ c.read_at.new.buf = held_is_part log _ _ 8 (c.in_ok-read_at.ensures.read clean (omega arith)) len in
    c.get_sum.ensures ∙ ap (λ (b : List ℕ). stored_sum b 0) (sym read)
