use Rattle.std.proofs.Common.{rules}
use Rattle.std.proofs.lemmas.List.Sorted.{IsNonDecreasingBy-from_sort_by_key}
use Rattle.map_picture.specs.Wedges.{slot_of}
use Rattle.map_picture.proofs.sent.in_order.Goals as goal

pub returns-clause-same : goal.returns-clause-same
returns-clause-same c = rw c.in_ok-ordered.ensures.items at c.in_ok-sort_by_key.ensures.permutation

pub returns-clause-order : goal.returns-clause-order
returns-clause-order c = IsNonDecreasingBy-from_sort_by_key slot_of _ c.in_ok-sort_by_key.ensures.sorted (λ a r q k. search rules)
