use Rattle.std.proofs.Common.{string_bytes, codes, refl}
use Rattle.xml_text.specs.Xml.Tag.{Circle}
use Rattle.run_picture.specs.Marks.{has_failed, mark_shape}
use Rattle.run_picture.proofs.Rendered.{other_tag}
use Rattle.run_picture.proofs.marks.add_mark_shape.Goals as goal

pub returns-then-has_failed : goal.returns-then-has_failed
returns-then-has_failed c =
    other_tag c.add_dot.result (string_bytes c.args.out.now) (string_bytes c.add_dot.new.out) c.args.mark.now.title.now
    (Circle c.args.mark.now.at.0 c.args.mark.now.at.1 5 (codes "ring"))
    (mark_shape (has_failed c.args.mark.now.answer) c.args.mark.now.letters.now c.args.mark.now.at.0 c.args.mark.now.at.1 c.args.mark.now.event.now c.args.mark.now.answer)
    (rw (← c.has_failed.ensures, c.if-has_failed.true) refl) c.add_dot.ensures
