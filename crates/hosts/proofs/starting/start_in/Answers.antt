use Rattle.std.proofs.Common.{rules, subst, sym}
use Rattle.hosts.specs.Starting.{CanStart, IsNoneToStart}
use Rattle.hosts.proofs.Starts.{head_starts_none, unread_starts_none}
use Rattle.hosts.proofs.starting.start_in.Goals as goal

pub returns-then-not-can_start : goal.returns-then-not-can_start
returns-then-not-can_start c =
    let cannot : ¬ CanStart c.args.members c.args.places c.in-Some.head = search rules in
    head_starts_none c.one_spelling_of_states.ensures.frame c.args.members c.args.places c.args.state.now c.in-Some.head c.in-Some.spelling.now (search rules) cannot

pub returns-in-Err : goal.returns-in-Err
returns-in-Err c =
    let can : CanStart c.args.members c.args.places c.in-Some.head = search rules in
    let none = unread_starts_none c.one_spelling_of_states.ensures.frame c.args.members c.args.places c.args.state.now c.in-Some.head c.in-Some.spelling.now (search rules) can c.in-Err.why
    (λ rows spells. (c.in-Err.ensures.spelled rows spells).0) in
    subst (λ fault. IsNoneToStart c.args.members c.args.places c.args.state.now fault) (sym c.unread.ensures) none
