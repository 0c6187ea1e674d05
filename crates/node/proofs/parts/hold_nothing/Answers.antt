use Rattle.std.proofs.Common.{ap, ◌∙◌}
use Rattle.ballots.specs.Rows.{rows_from}
use Rattle.acceptor.proofs.Callers.{still_holds, same_then}
use Rattle.node.proofs.Freshness.{nothing_so}
use Rattle.node.proofs.parts.hold_nothing.Goals as goal

pub returns-clause-value : goal.returns-clause-value
returns-clause-value g c honest content holds =
    let second = c.learned_from.ensures.trust.honest honest in
    let first = c.votes_from.ensures.trust.honest second in
    let mid = still_holds _ _ content (c.in_ok-used.ensures.kept first) holds in
    let last = still_holds _ _ content (same_then _ _ _ (c.in_ok-used.ensures.kept first) (c.in_ok-votes.ensures.kept second)) holds in
    let so = nothing_so content c.in_ok-used.used c.in_ok-votes.votes c.in_ok-learned.learned.items (c.in_ok-votes.ensures.sound second content mid) (c.in_ok-used.ensures.value first content holds)
    (c.in_ok-votes.ensures.value second content mid ∙ ap (rows_from content.votes) c.place_of.ensures) (c.in_ok-learned.ensures.value honest content last ∙ ap (rows_from content.learned) c.place_of-2.ensures) in
    rw (c.is_nothing.ensures, c.rows.ensures, c.as_slice.ensures.value) so
