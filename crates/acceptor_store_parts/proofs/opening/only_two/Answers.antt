use Rattle.std.proofs.Common.{List, ap, ◌∙◌, slice_index_or}
use Rattle.sqlite.specs.Order.{Row}
use Rattle.acceptor_store_parts.proofs.opening.only_two.Goals as goal

pub returns-in_default-clause-none : goal.returns-in_default-clause-none
returns-in_default-clause-none c tried row it ir e = c.in_default.ensures.none tried it (c.index-rows-0.is ∙ ap (λ (rs : List Row). slice_index_or rs 0 c.index-rows-0.result) e)
