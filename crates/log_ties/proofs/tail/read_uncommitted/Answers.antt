use Rattle.std.proofs.Common.{rules, arith, ◌≡◌, ℕ, List, length, sym, ◌∙◌, ap, subst}
use Rattle.std.proofs.lemmas.Bool.{false≢true}
use Rattle.sqlite_wal.specs.Format.{part, stored_sum, commit_size, IsFrame}
use Rattle.sqlite_wal.proofs.PartLemmas.{held_is_part}
use Rattle.log_ties.proofs.tail.read_uncommitted.Goals as goal
use Rattle.log_ties.proofs.tail.read_uncommitted.Goals.{else-is_frame-via-then-is_frame+else-get_be32-eq0}
use Rattle.log_ties.proofs.tail.read_uncommitted.Goals.{else-is_frame-via-else-is_frame}

pub returns-then-get_be32-eq0-clause-found : goal.returns-then-get_be32-eq0-clause-found
returns-then-get_be32-eq0-clause-found g c clean =
    let log = g.D.Disk.seen c.args.log.now in
    let len : length c.read_at.new.buf ≡ length c.args.buf.now = search rules in
    let read : part log c.args.at (length c.args.buf.now) ≡ c.read_at.new.buf = held_is_part log _ _ _ (c.in_ok-read_at.ensures.read clean (omega arith)) len in
    let passes = c.is_frame.ensures.0 c.if-is_frame.true in
    ((subst (IsFrame c.args.head.now c.args.before) (sym read) passes, ap commit_size read ∙ sym c.get_be32.ensures ∙ c.if-get_be32-eq0.true), c.get_sum.ensures ∙ ap (λ (b : List ℕ). stored_sum b 16) (sym read))

pub returns-else-is_frame-clause-found : goal.returns-else-is_frame-clause-found
returns-else-is_frame-clause-found g c clean quiet =
    let log = g.D.Disk.seen c.args.log.now in
    let len : length c.read_at.new.buf ≡ length c.args.buf.now = search rules in
    let read : part log c.args.at (length c.args.buf.now) ≡ c.read_at.new.buf = held_is_part log _ _ _ (c.in_ok-read_at.ensures.read clean (omega arith)) len in
    elim c.else-is_frame.branch [
      | else-is_frame-via-then-is_frame+else-get_be32-eq0 w ↦ w.if-get_be32-eq0.false (w.get_be32.ensures ∙ ap commit_size (sym read) ∙ quiet.1)
      | else-is_frame-via-else-is_frame w ↦ false≢true (sym w.if-is_frame.false ∙ c.is_frame.ensures.1 (subst (IsFrame c.args.head.now c.args.before) read quiet.0))
    ]
