use Rattle.xml_text.proofs.Texts.{contents_is}
use Rattle.xml_text.proofs.layers.contents.Goals as goal

pub returns : goal.returns
returns c = λ known d is_known drawn.
    contents_is c.args.sheet.now.size.0 c.args.sheet.now.size.1 c.args.sheet.now.title.now c.args.sheet.now.style.now known d _ _ _ _ _ _ c.new-out.ensures.bytes c.in_ok-add_title.ensures c.in_ok-add_style.ensures
    (c.in_ok-add_definitions.ensures known is_known) c.in_ok-add_rectangle.ensures (c.in_ok-add_layers.ensures d drawn)
