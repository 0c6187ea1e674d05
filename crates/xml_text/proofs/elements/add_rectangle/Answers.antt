use Rattle.std.proofs.Common.{string_bytes, ◌∙◌}
use Rattle.xml_text.proofs.Pushed.{pushed}
use Rattle.xml_text.proofs.Texts.{rectangle_is}
use Rattle.xml_text.proofs.elements.add_rectangle.Goals as goal

pub returns : goal.returns
returns c =
    pushed c.push_str.result (string_bytes c.args.out.now) _ _ _ c.push_str.ensures.bytes
    (c.as_str.ensures.value
    ∙ rectangle_is c.args.area.corner.0 c.args.area.corner.1 c.args.area.size.0 c.args.area.size.1 c.args.class.now _ _ _ c.in_ok-class.ensures c.in_ok-tail.ensures.ok c.in_ok-text.ensures.ok)
