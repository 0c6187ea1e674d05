use Rattle.std.proofs.Common.{rules, subst, sym}
use Rattle.hosts.specs.Joining.{CanJoin, StaysFor}
use Rattle.hosts.proofs.Joining.{head_stays, unread_stays}
use Rattle.hosts.proofs.host.Host.join_state.Goals as goal

pub returns-then-not-can_join-clause-stays : goal.returns-then-not-can_join-clause-stays
returns-then-not-can_join-clause-stays g c =
    let cannot : ¬ CanJoin c.args.self.now c.in-Some.head = search rules in
    head_stays c.one_spelling_of_states.ensures.frame c.args.self.now c.args.state.now c.in-Some.head c.in-Some.spelling.now (search rules) cannot

pub returns-in-Err : goal.returns-in-Err
returns-in-Err g c =
    let can : CanJoin c.args.self.now c.in-Some.head = search rules in
    let stays = unread_stays c.one_spelling_of_states.ensures.frame c.args.self.now c.args.state.now c.in-Some.head c.in-Some.spelling.now (search rules) can c.in-Err.why
    (λ rows spells. (c.in-Err.ensures.spelled rows spells).0) in
    record { joins = tt; stays = subst (λ fault. StaysFor c.args.self.now c.args.state.now fault c.args.self.now) (sym c.unread.ensures) stays }
