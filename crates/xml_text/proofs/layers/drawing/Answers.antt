use Rattle.xml_text.proofs.Texts.{drawing_is}
use Rattle.xml_text.proofs.layers.drawing.Goals as goal

pub returns : goal.returns
returns c = λ known d is_known drawn.
    drawing_is c.args.sheet.now.size.0 c.args.sheet.now.size.1 c.args.sheet.now.title.now c.args.sheet.now.style.now known d _ _ _ (c.in_ok-inside.ensures known d is_known drawn) c.in_ok-tail.ensures.ok c.in_ok-text.ensures.ok
