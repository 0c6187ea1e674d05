use Rattle.std.proofs.Common.{string_bytes, ap, codes, ◌++◌, ◌∙◌}
use Rattle.xml_text.proofs.Pushed.{pushed}
use Rattle.xml_text.proofs.layers.add_definitions.Goals as goal

pub returns : goal.returns
returns c = λ known is_known.
    pushed c.push_str.result (string_bytes c.args.out.now) _ _ _ c.push_str.ensures.bytes
    (c.as_str.ensures.value ∙ c.in_ok-text.ensures.ok ∙ ap (λ t. codes "<defs>" ++ (t ++ codes "</defs>")) is_known)
