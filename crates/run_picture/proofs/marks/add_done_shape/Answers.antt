use Rattle.std.proofs.Common.{◌-◌, string_bytes, codes, ap, refl, ◌∙◌}
use Rattle.xml_text.specs.Xml.Tag.{Circle}
use Rattle.run_picture.specs.Marks.{done_shape, path_at}
use Rattle.run_picture.proofs.Rendered.{other_tag}
use Rattle.run_picture.proofs.marks.add_done_shape.Goals as goal

pub returns-in-Lead : goal.returns-in-Lead
returns-in-Lead c =
    other_tag c.add_path_at.result (string_bytes c.args.out.now) (string_bytes c.add_path_at.new.out) c.args.mark.now.title.now
    (path_at c.args.mark.now.at.0 c.saturating_sub-highest.result (codes "l7 12h-14z") (codes "f-prepare")) (done_shape c.args.mark.now.letters.now c.args.mark.now.at.0 c.args.mark.now.at.1 c.args.mark.now.event.now c.args.mark.now.answer)
    (rw c.in-Lead.is (ap (λ t. path_at c.args.mark.now.at.0 t (codes "l7 12h-14z") (codes "f-prepare")) c.saturating_sub-highest.ensures)) c.add_path_at.ensures

pub returns-in-Offer : goal.returns-in-Offer
returns-in-Offer c =
    other_tag c.add_path_at-in-Offer.result (string_bytes c.args.out.now) (string_bytes c.add_path_at-in-Offer.new.out) c.args.mark.now.title.now
    (path_at c.saturating_sub-left.result c.saturating_sub-up.result (codes "h11v11h-11z") (codes "f-accept")) (done_shape c.args.mark.now.letters.now c.args.mark.now.at.0 c.args.mark.now.at.1 c.args.mark.now.event.now c.args.mark.now.answer)
    (rw c.in-Offer.is (ap (λ t. path_at t c.saturating_sub-up.result (codes "h11v11h-11z") (codes "f-accept")) c.saturating_sub-left.ensures ∙ ap (λ t. path_at (c.args.mark.now.at.0 - 5) t (codes "h11v11h-11z") (codes "f-accept")) c.saturating_sub-up.ensures)) c.add_path_at-in-Offer.ensures

pub returns-in-Tell : goal.returns-in-Tell
returns-in-Tell c =
    other_tag c.add_path_at-in-Tell.result (string_bytes c.args.out.now) (string_bytes c.add_path_at-in-Tell.new.out) c.args.mark.now.title.now
    (path_at c.saturating_sub-left.result c.saturating_sub-higher.result (codes "l12 6l-12 6z") (codes "f-known")) (done_shape c.args.mark.now.letters.now c.args.mark.now.at.0 c.args.mark.now.at.1 c.args.mark.now.event.now c.args.mark.now.answer)
    (rw c.in-Tell.is (ap (λ t. path_at t c.saturating_sub-higher.result (codes "l12 6l-12 6z") (codes "f-known")) c.saturating_sub-left.ensures ∙ ap (λ t. path_at (c.args.mark.now.at.0 - 5) t (codes "l12 6l-12 6z") (codes "f-known")) c.saturating_sub-higher.ensures)) c.add_path_at-in-Tell.ensures

pub returns-in-Release : goal.returns-in-Release
returns-in-Release c =
    other_tag c.add_path_at-in-Release.result (string_bytes c.args.out.now) (string_bytes c.add_path_at-in-Release.new.out) c.args.mark.now.title.now
    (path_at c.args.mark.now.at.0 c.saturating_sub-highest.result (codes "l7 7l-7 7l-7 -7z") (codes "f-output")) (done_shape c.args.mark.now.letters.now c.args.mark.now.at.0 c.args.mark.now.at.1 c.args.mark.now.event.now c.args.mark.now.answer)
    (rw c.in-Release.is (ap (λ t. path_at c.args.mark.now.at.0 t (codes "l7 7l-7 7l-7 -7z") (codes "f-output")) c.saturating_sub-highest.ensures)) c.add_path_at-in-Release.ensures

pub returns-in-Want : goal.returns-in-Want
returns-in-Want c =
    other_tag c.add_path_at-in-Want.result (string_bytes c.args.out.now) (string_bytes c.add_path_at-in-Want.new.out) c.args.mark.now.title.now
    (path_at c.saturating_sub-lefter.result c.saturating_sub-up.result (codes "h12l-6 10z") (codes "f-ask")) (done_shape c.args.mark.now.letters.now c.args.mark.now.at.0 c.args.mark.now.at.1 c.args.mark.now.event.now c.args.mark.now.answer)
    (rw c.in-Want.is (ap (λ t. path_at t c.saturating_sub-up.result (codes "h12l-6 10z") (codes "f-ask")) c.saturating_sub-lefter.ensures ∙ ap (λ t. path_at (c.args.mark.now.at.0 - 6) t (codes "h12l-6 10z") (codes "f-ask")) c.saturating_sub-up.ensures)) c.add_path_at-in-Want.ensures

pub returns-in-Restart : goal.returns-in-Restart
returns-in-Restart c =
    other_tag c.add_dot.result (string_bytes c.args.out.now) (string_bytes c.add_dot.new.out) c.args.mark.now.title.now
    (Circle c.args.mark.now.at.0 c.args.mark.now.at.1 5 (codes "start")) (done_shape c.args.mark.now.letters.now c.args.mark.now.at.0 c.args.mark.now.at.1 c.args.mark.now.event.now c.args.mark.now.answer)
    (rw c.in-Restart.is (refl)) c.add_dot.ensures

pub returns-in-Hear : goal.returns-in-Hear
returns-in-Hear c =
    other_tag c.add_dot-in-Hear.result (string_bytes c.args.out.now) (string_bytes c.add_dot-in-Hear.new.out) c.args.mark.now.title.now
    (Circle c.args.mark.now.at.0 c.args.mark.now.at.1 4 (codes "f-output")) (done_shape c.args.mark.now.letters.now c.args.mark.now.at.0 c.args.mark.now.at.1 c.args.mark.now.event.now c.args.mark.now.answer)
    (rw c.in-Hear.is (refl)) c.add_dot-in-Hear.ensures
