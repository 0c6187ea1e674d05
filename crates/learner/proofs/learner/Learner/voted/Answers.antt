use Rattle.std.proofs.Common.{◌≡◌, ◌*◌, ◌<◌, ◌≤◌, arith, Bool, true, List, ap, sym, ◌∙◌, slice_set, None}
use Rattle.ballots.specs.Members.{member_count}
use Rattle.ballots.specs.Rows.{at}
use Rattle.ballots.specs.Voting.{count_below}
use Rattle.learner.specs.Tally.{Tally, is_voter, with_voter, voters_in, groups_at}
use Rattle.learner.proofs.Voting.{is_nothing, teaches_so, teaches_not}
use Rattle.learner.proofs.learner.Learner.voted.Goals as goal

pub returns-then-count-clause-taught : goal.returns-then-count-clause-taught
returns-then-count-clause-taught c =
    let t = c.args.self.now in
    let members = member_count c.args.members in
    let none : at t.learned c.args.place ≡ None = ap (λ (x : Tally). at x.learned c.args.place) (sym c.self.view_is) ∙ is_nothing (at c.self.inside.learned.entries c.args.place) (sym c.if-contains.ensures) in
    let voters : c.with-voters.result ≡ with_voter t.counted c.args.from c.args.ballot c.args.place c.args.value =
    c.with-voters.ensures ∙ ap (λ (s : List Bool). slice_set s c.args.from true) (c.voters.ensures ∙ ap (λ (x : Tally). voters_in (groups_at x.counted c.args.place) c.args.ballot c.args.value) c.self.view_is) in
    let same = c.count.ensures.among ∙ ap (λ (s : List Bool). count_below (is_voter s) members) voters in
    let most : members < 2 * count_below (is_voter (with_voter t.counted c.args.from c.args.ballot c.args.place c.args.value)) members = omega (arith, same, c.if-count.true, c.count-2.ensures) in
    teaches_so members t c.args.from c.args.ballot c.args.place c.args.value (at t.learned c.args.place) none most

pub returns-clause-taught : goal.returns-clause-taught
returns-clause-taught c =
    let t = c.args.self.now in
    let members = member_count c.args.members in
    let none : at t.learned c.args.place ≡ None = ap (λ (x : Tally). at x.learned c.args.place) (sym c.self.view_is) ∙ is_nothing (at c.self.inside.learned.entries c.args.place) (sym c.if-contains.ensures) in
    let voters : c.with-voters.result ≡ with_voter t.counted c.args.from c.args.ballot c.args.place c.args.value =
    c.with-voters.ensures ∙ ap (λ (s : List Bool). slice_set s c.args.from true) (c.voters.ensures ∙ ap (λ (x : Tally). voters_in (groups_at x.counted c.args.place) c.args.ballot c.args.value) c.self.view_is) in
    let same = c.count.ensures.among ∙ ap (λ (s : List Bool). count_below (is_voter s) members) voters in
    let few : 2 * count_below (is_voter (with_voter t.counted c.args.from c.args.ballot c.args.place c.args.value)) members ≤ members = omega (arith, same, c.if-count.false, c.count-2.ensures) in
    teaches_not members t c.args.from c.args.ballot c.args.place c.args.value (at t.learned c.args.place) none few
