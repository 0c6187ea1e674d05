use Rattle.std.proofs.Common.{◌∙◌}
use Rattle.xml_text.proofs.Texts.{layered_is}
use Rattle.xml_text.proofs.layers.add_layers.Goals as goal

pub returns : goal.returns
returns c = λ d drawn.
    layered_is d _ _ _ _ _ _ _ _ _ _ _ (c.as_str.ensures.value ∙ drawn.rules) (c.as_str-2.ensures.value ∙ drawn.bands) (c.as_str-3.ensures.value ∙ drawn.arrows)
    (c.as_str-4.ensures.value ∙ drawn.marks) (c.as_str-5.ensures.value ∙ drawn.labels)
    c.in_ok-push_str.ensures.bytes c.in_ok-push_str-2.ensures.bytes c.in_ok-push_str-3.ensures.bytes c.in_ok-push_str-4.ensures.bytes c.in_ok-push_str-5.ensures.bytes
