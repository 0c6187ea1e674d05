use Rattle.std.proofs.Common.{length, slice_get, refl}
use Rattle.std.proofs.lemmas.Option.{slice_get_read}
use Rattle.map_picture.specs.Owners.{grant_for}
use Rattle.map_picture.proofs.Rendered.{next}
use Rattle.map_picture.proofs.owners.add_grants_in.Goals as goal

pub loop-k-preserved : goal.loop-k-preserved
loop-k-preserved c =
    next c.loop-k.k (grant_for c.args.owner.now c.args.start) (slice_get c.args.intervals.now) c.index-intervals-k.result _ _ _
    (slice_get_read c.args.intervals.now (length c.args.intervals.now) c.loop-k.k c.index-intervals-k.result refl c.loop-k-test.true c.index-intervals-k.is)
    c.loop-k.invariant c.in_ok-add_grant.ensures
