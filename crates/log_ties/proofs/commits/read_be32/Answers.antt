use Rattle.std.proofs.Common.{rules, arith, ◌≡◌, ◌+◌, ℕ, List, length, sym, ◌∙◌, ap}
use Rattle.sqlite_wal.specs.Format.{part, be32}
use Rattle.sqlite_wal.proofs.FormatLemmas.{be32-part}
use Rattle.sqlite_wal.proofs.PartLemmas.{held_is_part}
use Rattle.log_ties.proofs.commits.read_be32.Goals as goal

pub returns-clause-number : goal.returns-clause-number
returns-clause-number g c clean =
    let log = g.D.Disk.seen c.args.log.now in
    let len : length c.read_at.new.buf ≡ 4 = search rules in
    let read : part log c.args.at 4 ≡ c.read_at.new.buf = held_is_part log _ _ 4 (c.in_ok-read_at.ensures.read clean (omega arith)) len in
    let here : c.args.at + 0 ≡ c.args.at = omega arith in
    c.get_be32.ensures ∙ ap (λ (b : List ℕ). be32 b 0) (sym read) ∙ be32-part log c.args.at 4 0 (omega arith) ∙ ap (λ (at : ℕ). be32 log at) here
