use Rattle.std.proofs.Common.{◌≡◌, max, ◌∙◌}
use Rattle.acceptor.specs.Content.{promised}
use Rattle.acceptor.proofs.Certain.{still_holds}
use Rattle.acceptor.proofs.acceptor.greatest_used.Goals as goal

pub returns-clause-value : goal.returns-clause-value
returns-clause-value g c honest d holds =
    let first = c.promised.ensures.trust.honest honest in
    let tried : c.number.result ≡ d.tried = c.number.ensures ∙ c.in_ok-tried.ensures.value first d holds in
    let row : c.number-2.result ≡ promised d = c.number-2.ensures ∙ c.in_ok-promised.ensures.value honest d (still_holds _ _ d (c.in_ok-tried.ensures.kept first) holds) in
    c.max.ensures ∙ (λ i. max (tried i) (row i))
