use Rattle.std.proofs.Common.{◌≤◌, length, arith}
use Rattle.std.proofs.lemmas.Bool.{false≢true}
use Rattle.log_ties.proofs.ReadLemmas.{at_none}
use Rattle.log_ties.proofs.TieLemmas.{no_cut}
use Rattle.log_ties.proofs.tie.is_cut.Goals as goal

pub returns-in-None-clause-cut : goal.returns-in-None-clause-cut
returns-in-None-clause-cut g c clean =
    let log = g.D.Disk.seen c.args.log.now in
    let none = at_none _ _ c.in_ok-shape.field-0 c.in-None.is (c.in_ok-shape.ensures.found clean) in
    let len = (c.requires.read (c.frames_of.ensures.same.clean clean)).1 in
    let long : 32 ≤ length log = omega (arith, len, c.requires.long) in
    (λ yes'. absurd (false≢true yes'), λ cut. absurd (no_cut log none long cut))
