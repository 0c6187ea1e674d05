use Rattle.std.proofs.Common.{◌++◌, length, slice_get, string_bytes, codes, ap, sym, refl, ◌∙◌}
use Rattle.std.proofs.lemmas.Option.{slice_get_past, slice_get_read}
use Rattle.xml_text.specs.Xml.Tag.{Circle}
use Rattle.ballots.specs.declared.letters.Letter.{Letter}
use Rattle.run_picture.specs.Marks.{kind_name, letter_dot}
use Rattle.run_picture.proofs.Rendered.{other_tag}
use Rattle.run_picture.proofs.marks.add_letter_dot.Goals as goal

pub returns-then-i-letters : goal.returns-then-i-letters
returns-then-i-letters c =
    other_tag c.add_dot.result (string_bytes c.args.out.now) (string_bytes c.add_dot.new.out) c.args.mark.now.title.now
    (Circle c.args.mark.now.at.0 c.args.mark.now.at.1 5 (codes "ring")) (letter_dot c.args.mark.now.at.0 c.args.mark.now.at.1 (slice_get c.args.mark.now.letters.now c.args.i))
    (rw (slice_get_past c.args.mark.now.letters.now c.args.i c.if-i-letters.true) refl) c.add_dot.ensures

pub returns : goal.returns
returns c =
    other_tag c.add_dot-2.result (string_bytes c.args.out.now) (string_bytes c.add_dot-2.new.out) c.args.mark.now.title.now
    (Circle c.args.mark.now.at.0 c.args.mark.now.at.1 4 c.as_str.result.now) (letter_dot c.args.mark.now.at.0 c.args.mark.now.at.1 (slice_get c.args.mark.now.letters.now c.args.i))
    (rw (slice_get_read c.args.mark.now.letters.now (length c.args.mark.now.letters.now) c.args.i c.index-letters-i.result refl c.if-i-letters.false c.index-letters-i.is)
    (ap (λ t. Circle c.args.mark.now.at.0 c.args.mark.now.at.1 4 t) (c.as_str.ensures.value ∙ c.in_ok-class.ensures.ok ∙ ap (λ t. codes "f-" ++ t) c.kind_name.ensures
    ∙ ap (λ (l : Letter). codes "f-" ++ kind_name l.note) (sym c.index-letters-i.is))))
    c.add_dot-2.ensures
