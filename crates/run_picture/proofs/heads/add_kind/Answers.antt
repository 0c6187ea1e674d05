use Rattle.std.proofs.Common.{◌++◌, string_bytes, codes, ap, refl, ◌∙◌}
use Rattle.xml_text.specs.Xml.Tag.{Words}
use Rattle.run_picture.proofs.Rendered.{other_words}
use Rattle.run_picture.proofs.heads.add_kind.Goals as goal

pub returns : goal.returns
returns c =
    other_words c.add_words.result (string_bytes c.args.out.now) (string_bytes c.add_words.new.out) c.args.kind.now c.args.kind.now
    (Words c.args.x 92 c.as_str.result.now) (Words c.args.x 92 (codes "b f-" ++ c.args.kind.now))
    (ap (λ t. Words c.args.x 92 t) (c.as_str.ensures.value ∙ c.in_ok-class.ensures.ok)) refl c.add_words.ensures
