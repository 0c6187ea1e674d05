use Rattle.std.proofs.Common.{◌+◌, ◌++◌, codes, decimal, ap, ◌∙◌}
use Rattle.run_picture.proofs.arrows.bow.Goals as goal

pub returns : goal.returns
returns c =
    c.in_ok-text.ensures.ok
    ∙ ap (λ t. codes "M" ++ (decimal (c.args.x + 5) ++ (codes " " ++ (decimal c.args.y1 ++ (codes "C" ++ (decimal (c.args.x + 34) ++ (codes " " ++ (decimal c.args.y1 ++ (codes " " ++ t)))))))))
    c.in_ok-tail.ensures.ok
