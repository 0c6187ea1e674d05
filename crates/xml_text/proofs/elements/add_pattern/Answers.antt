use Rattle.std.proofs.Common.{string_bytes, ◌∙◌}
use Rattle.xml_text.proofs.Pushed.{begun, pushed}
use Rattle.xml_text.proofs.Texts.{pattern_is}
use Rattle.xml_text.proofs.elements.add_pattern.Goals as goal

pub returns : goal.returns
returns c =
    pushed c.push_str.result (string_bytes c.args.out.now) _ _ _ c.push_str.ensures.bytes
    (c.as_str.ensures.value
    ∙ pattern_is c.args.fill.now.id.now c.args.fill.now.size c.args.fill.now.steps.now c.args.fill.now.class.now _ _ _ c.in_ok-id.ensures (begun _ _ _ c.new-path.ensures.bytes c.in_ok-add_path.ensures) c.in_ok-text.ensures.ok)
