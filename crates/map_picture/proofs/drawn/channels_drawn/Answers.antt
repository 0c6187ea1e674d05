use Rattle.std.proofs.Common.{ap, ◌∙◌}
use Rattle.xml_text.specs.Xml.{render}
use Rattle.map_picture.specs.Pictures.{stacked, Stack}
use Rattle.map_picture.proofs.Rendered.{begun}
use Rattle.map_picture.proofs.drawn.channels_drawn.Goals as goal

pub returns : goal.returns
returns c =
    begun _ _ (stacked c.args.all.now) c.new-out.ensures.bytes c.in_ok-add_channels.ensures ∙ ap (λ (s : Stack). render (stacked s)) c.requires.stack
