use Rattle.std.proofs.Common.{◌-◌, string_bytes, codes, ap, ◌∙◌}
use Rattle.run_picture.specs.Marks.{cross_at, path_at}
use Rattle.run_picture.proofs.Rendered.{other_tag}
use Rattle.run_picture.proofs.marks.add_cross.Goals as goal

pub returns : goal.returns
returns c =
    other_tag c.add_path_at.result (string_bytes c.args.out.now) (string_bytes c.add_path_at.new.out) c.args.title.now
    (path_at c.saturating_sub-left.result c.saturating_sub-up.result (codes "l10 10m0 -10l-10 10") (codes "x sbad")) (cross_at c.args.at.0 c.args.at.1)
    (ap (λ t. path_at t c.saturating_sub-up.result (codes "l10 10m0 -10l-10 10") (codes "x sbad")) c.saturating_sub-left.ensures
    ∙ ap (λ t. path_at (c.args.at.0 - 5) t (codes "l10 10m0 -10l-10 10") (codes "x sbad")) c.saturating_sub-up.ensures) c.add_path_at.ensures
