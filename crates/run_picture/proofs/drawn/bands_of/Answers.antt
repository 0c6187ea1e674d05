use Rattle.xml_text.specs.Each.{each}
use Rattle.run_picture.specs.Parts.{lanes}
use Rattle.run_picture.specs.Pictures.{lane_line, node_bands}
use Rattle.run_picture.proofs.Rendered.{begun, behind}
use Rattle.run_picture.proofs.drawn.bands_of.Goals as goal

pub returns : goal.returns
returns c =
    behind _ _ (each c.args.scene.now.members (node_bands c.args.scene.now c.args.bottom)) (each (lanes c.args.scene.now) (lane_line c.args.scene.now c.args.bottom))
    (begun _ _ (each c.args.scene.now.members (node_bands c.args.scene.now c.args.bottom)) c.new-out.ensures.bytes c.in_ok-add_all_bands.ensures) c.in_ok-add_lanes.ensures
