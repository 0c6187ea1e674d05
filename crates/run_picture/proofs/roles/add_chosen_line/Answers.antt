use Rattle.std.proofs.Common.{◌+◌, ◌++◌, string_bytes, codes, decimal, ap, ◌∙◌}
use Rattle.xml_text.specs.Xml.{said, shape}
use Rattle.xml_text.specs.Xml.Tag.{Line, Words}
use Rattle.run_picture.specs.Lanes.{lanes_end}
use Rattle.run_picture.proofs.Bands.{two_drawn}
use Rattle.run_picture.proofs.Rendered.{other_words}
use Rattle.run_picture.proofs.roles.add_chosen_line.Goals as goal

pub returns : goal.returns
returns c =
    two_drawn c.add_words.result (string_bytes c.args.out.now) (string_bytes c.add_line.new.out) (string_bytes c.add_words.new.out)
    (shape (Line 212 c.args.y (lanes_end c.args.lanes) c.args.y (codes "chosen")))
    (said (Words (lanes_end c.args.lanes + 70) (c.args.y + 4) (codes "s b")) (codes "p" ++ (decimal c.args.place ++ codes " chosen")))
    (rw c.lanes_end-end.ensures.value at c.in_ok-add_line.ensures)
    (other_words c.add_words.result (string_bytes c.add_line.new.out) (string_bytes c.add_words.new.out) c.as_str.result.now (codes "p" ++ (decimal c.args.place ++ codes " chosen"))
    (Words (c.lanes_end-end.result + 70) (c.args.y + 4) (codes "s b")) (Words (lanes_end c.args.lanes + 70) (c.args.y + 4) (codes "s b"))
    (ap (λ t. Words (t + 70) (c.args.y + 4) (codes "s b")) c.lanes_end-end.ensures.value) (c.as_str.ensures.value ∙ c.in_ok-words.ensures.ok) c.add_words.ensures)
