use Rattle.std.proofs.Common.{arith}
use Rattle.acceptor_store.proofs.Words.{∥∥₁_map}
use Rattle.acceptor_store.proofs.anew.opened_again.Goals as goal

pub returns-in-Ok-clause-found : goal.returns-in-Ok-clause-found
returns-in-Ok-clause-found g c clean =
    let finds = c.in-Ok.ensures.found clean in
    let sure = c.given_up.ensures.clean c.in-Ok.fresh finds in
    let store = c.into_store.ensures in
    (omega (arith, store.quiet.clean, sure), ∥∥₁_map (c.given_up.ensures.left c.in-Ok.fresh finds (store.numbered sure) (store.sound sure)) (store.quiet.outcomes _))
