use Rattle.std.proofs.Common.{◌≡◌, ℕ, sym, ◌∙◌, ap, subst, List, Err}
use Rattle.sqlite_wal.specs.declared.error.Error.{Error}
use Rattle.sqlite_wal.specs.Format.{be32}
use Rattle.sqlite_wal.specs.PageSize.{bytes_of}
use Rattle.sqlite_wal.specs.Recovery.{Replays}
use Rattle.log_ties.specs.Ties.{size_of}
use Rattle.log_ties.proofs.TieLemmas.{corrupt_for}
use Rattle.log_ties.proofs.tie.frames_of.Goals as goal

pub returns-in-Err-Corrupt-clause-found : goal.returns-in-Err-Corrupt-clause-found
returns-in-Err-Corrupt-clause-found g c clean read k taken =
    let log = g.D.Disk.seen c.args.log.now in
    let head = (c.requires.read (c.probe_frames.ensures.same.clean clean)).0 in
    let same : size_of log ≡ bytes_of c.in-Some.size = ap (λ (h : List ℕ). be32 h 8) (sym head) ∙ sym c.get_be32-2.ensures ∙ sym c.in-Some.ensures.value in
    corrupt_for c.probe_frames.result _ _ _ _ _ (c.in-Err-Corrupt.is ∙ ap (λ (e : Error). Err e) c.in-Err-Corrupt.field-0-is) c.probe_frames.ensures.cause clean k (subst (λ (s : ℕ). Replays s log k) same taken)
