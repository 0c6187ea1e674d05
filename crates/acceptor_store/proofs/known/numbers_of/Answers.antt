use Rattle.std.proofs.Common.{ap, ◌∙◌}
use Rattle.acceptor.specs.Content.{greatest}
use Rattle.acceptor_store.proofs.Words.{err_from_is_err_and}
use Rattle.acceptor_store.proofs.known.numbers_of.Goals as goal

pub returns-clause-value : goal.returns-clause-value
returns-clause-value g c clean d was =
    let it = c.in_ok-tried.ensures.value clean d was in
    record { tries = it.0; promises = c.greatest_of-promised.ensures ∙ (ap (λ n. greatest n c.rows.result.now) it.1 ∙ ap (greatest d.row) (c.rows.ensures ∙ it.2)) }

pub returns-in_err-tried-clause-stays : goal.returns-in_err-tried-clause-stays
returns-in_err-tried-clause-stays g c clean = let p = err_from_is_err_and c.from_residual.result c.from_residual.ensures.1 in rw (p.1, p.2) (c.in_err-tried.ensures.stays clean)
