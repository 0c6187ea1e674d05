use Rattle.std.proofs.Common.{Option, Some, None, IfNone, take, ap}
use Rattle.acceptor_store_parts.proofs.opening.two_before.Goals as goal

none_then : {X A B : Type 0} (o : Option X) → IfNone o A → (A → B) → IfNone o B
none_then None h f = f h
none_then (Some x) h f = tt

pub returns-clause-none : goal.returns-clause-none
returns-clause-none c =
    none_then c.only_two.result c.only_two.ensures.none (λ none tried row it ir is. none tried row it ir (ap (take 2) is))
