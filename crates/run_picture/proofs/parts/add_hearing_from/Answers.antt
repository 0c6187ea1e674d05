use Rattle.std.proofs.Common.{string_bytes}
use Rattle.run_picture.proofs.Heard.{heard_drawn}
use Rattle.run_picture.proofs.parts.add_hearing_from.Goals as goal

pub returns : goal.returns
returns c =
    heard_drawn c.add_output_arrow.result (string_bytes c.args.out.now) (string_bytes c.add_output_arrow.new.out) c.args.scene.now c.args.hears.0 c.args.hears.1 c.args.y c.lanes.result
    c.from-released.result _ c.index-scene-o.result c.if-o-scene.false c.index-scene-o.is c.if-o-scene-2.false c.from-released.ensures (rw (← c.index-scene-o.is) at c.if-output-scene.false)
    c.lanes.ensures (rw (← c.index-scene-o.is) at c.add_output_arrow.ensures)
