use Rattle.std.proofs.Common.{string_bytes, ◌∙◌}
use Rattle.xml_text.proofs.Pushed.{pushed}
use Rattle.xml_text.proofs.elements.add_circle.Goals as goal

pub returns : goal.returns
returns c =
    pushed c.push_str.result (string_bytes c.args.out.now) _ _ _ c.push_str.ensures.bytes (c.as_str.ensures.value ∙ rw c.in_ok-class.ensures at c.in_ok-text.ensures.ok)
