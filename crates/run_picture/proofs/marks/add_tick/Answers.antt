use Rattle.std.proofs.Common.{◌-◌, string_bytes, codes, ap, refl, ◌∙◌}
use Rattle.xml_text.specs.Xml.Tag.{Circle}
use Rattle.run_picture.specs.Marks.{path_at, tick_shape}
use Rattle.run_picture.proofs.Rendered.{other_tag}
use Rattle.run_picture.proofs.marks.add_tick.Goals as goal

pub returns-then-idle : goal.returns-then-idle
returns-then-idle c =
    other_tag c.add_dot.result (string_bytes c.args.out.now) (string_bytes c.add_dot.new.out) c.args.title.now
    (Circle c.args.at.0 c.args.at.1 2 (codes "mute")) (tick_shape c.args.idle c.args.at.0 c.args.at.1) (rw c.if-idle.true refl) c.add_dot.ensures

pub returns : goal.returns
returns c =
    other_tag c.add_path_at.result (string_bytes c.args.out.now) (string_bytes c.add_path_at.new.out) c.args.title.now
    (path_at c.saturating_sub-left.result c.saturating_sub-up.result (codes "l12 6l-12 6z") (codes "f-ask")) (tick_shape c.args.idle c.args.at.0 c.args.at.1)
    (rw c.if-idle.false
    (ap (λ t. path_at t c.saturating_sub-up.result (codes "l12 6l-12 6z") (codes "f-ask")) c.saturating_sub-left.ensures
    ∙ ap (λ t. path_at (c.args.at.0 - 5) t (codes "l12 6l-12 6z") (codes "f-ask")) c.saturating_sub-up.ensures)) c.add_path_at.ensures
