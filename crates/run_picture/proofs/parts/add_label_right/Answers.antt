use Rattle.std.proofs.Common.{◌+◌, ◌++◌, string_bytes, codes, ap, ◌∙◌}
use Rattle.xml_text.specs.Xml.Tag.{Words}
use Rattle.run_picture.specs.Marks.{kind_name}
use Rattle.run_picture.specs.Words.{note_words}
use Rattle.run_picture.proofs.Rendered.{other_words}
use Rattle.run_picture.proofs.parts.add_label_right.Goals as goal

pub returns : goal.returns
returns c =
    other_words c.add_words.result (string_bytes c.args.out.now) (string_bytes c.add_words.new.out) c.as_str-2.result.now (note_words c.args.letter.now.note)
    (Words (c.args.x + 11) (c.args.y + 13) c.as_str.result.now) (Words (c.args.x + 11) (c.args.y + 13) (codes "s halo f-" ++ kind_name c.args.letter.now.note))
    (ap (λ t. Words (c.args.x + 11) (c.args.y + 13) t) (c.as_str.ensures.value ∙ c.in_ok-class.ensures.ok ∙ ap (λ t. codes "s halo f-" ++ t) c.kind_name-kind.ensures)) (c.as_str-2.ensures.value ∙ c.in_ok-words.ensures) c.add_words.ensures
