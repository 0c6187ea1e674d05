use Rattle.std.proofs.Common.{string_bytes}
use Rattle.run_picture.proofs.Bands.{bands_end, bands_on}
use Rattle.run_picture.proofs.roles.add_bands.Goals as goal

pub loop-i-preserved : goal.loop-i-preserved
loop-i-preserved c =
    bands_on c.lanes-lanes.result c.args.bottom c.args.k c.args.scene.now.run.now.rows c.loop-i.post c.post_after-post.result c.loop-i.start c.row_after-start.result c.loop-i.i 0 c.args.scene.now.rows.now
    c.new_post-next.result (string_bytes c.loop-i.out) (string_bytes c.add_band_if.new.out) _ c.loop-i-test.true c.new_post-next.ensures
    (rw c.from-y.ensures at c.in_ok-add_band_if.ensures) c.post_after-post.ensures (rw c.from-y.ensures at c.row_after-start.ensures) c.loop-i.invariant

pub returns : goal.returns
returns c =
    rw (← c.lanes-lanes.ensures)
    (bands_end c.add_band.result c.lanes-lanes.result c.args.bottom c.args.k c.args.scene.now.run.now.rows c.loop-i.post c.loop-i.start c.loop-i.i c.args.scene.now.rows.now
    (string_bytes c.loop-i.out) (string_bytes c.add_band.new.out) _ c.loop-i-test.false c.loop-i.invariant c.add_band.ensures)
