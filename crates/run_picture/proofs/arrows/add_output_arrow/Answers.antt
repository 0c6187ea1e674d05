use Rattle.std.proofs.Common.{string_bytes, codes, ap, ◌∙◌}
use Rattle.xml_text.specs.Xml.Tag.{Path}
use Rattle.run_picture.specs.Arrows.{arrow_steps, output_title}
use Rattle.run_picture.specs.Lanes.{lane_x}
use Rattle.run_picture.proofs.Rendered.{other_tag, other_title}
use Rattle.run_picture.proofs.arrows.add_output_arrow.Goals as goal

pub returns : goal.returns
returns c =
    other_title c.add_titled_path.result (string_bytes c.args.out.now) (string_bytes c.add_titled_path.new.out) c.as_str.result.now (output_title c.args.arrow.now.number c.args.arrow.now.output.now)
    (Path (arrow_steps (lane_x c.args.lanes c.args.arrow.now.output.now.node) c.args.arrow.now.rows.0 (lane_x c.args.lanes c.args.arrow.now.lane) c.args.arrow.now.rows.1) (codes "a s-output h-output weak"))
    (c.as_str.ensures.value ∙ c.in_ok-title.ensures)
    (other_tag c.add_titled_path.result (string_bytes c.args.out.now) (string_bytes c.add_titled_path.new.out) c.as_str.result.now
    (Path c.as_str-2.result.now (codes "a s-output h-output weak"))
    (Path (arrow_steps (lane_x c.args.lanes c.args.arrow.now.output.now.node) c.args.arrow.now.rows.0 (lane_x c.args.lanes c.args.arrow.now.lane) c.args.arrow.now.rows.1) (codes "a s-output h-output weak"))
    (ap (λ t. Path t (codes "a s-output h-output weak"))
    (c.as_str-2.ensures.value ∙ c.in_ok-steps.ensures
    ∙ ap (λ x. arrow_steps x c.args.arrow.now.rows.0 c.lane_x-to.result c.args.arrow.now.rows.1) c.lane_x-from.ensures.value
    ∙ ap (λ x. arrow_steps (lane_x c.args.lanes c.args.arrow.now.output.now.node) c.args.arrow.now.rows.0 x c.args.arrow.now.rows.1) c.lane_x-to.ensures.value))
    c.add_titled_path.ensures)
