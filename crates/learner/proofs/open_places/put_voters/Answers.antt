use Rattle.std.proofs.Common.{◌≡◌, [], rules, sym, ap, ◌∙◌, Some, unwrap_or}
use Rattle.std.specs.BTreeMap.{insert_entry, is_at}
use Rattle.std.specs.Ordering.{nat_cmp}
use Rattle.std.proofs.lemmas.Map.Steps.{set_value_same}
use Rattle.std.proofs.lemmas.Result.{on_ok_weaker, on_err_weaker}
use Rattle.ballots.specs.Rows.{at, put}
use Rattle.learner.specs.Proposals.{proposal_cmp}
use Rattle.learner.proofs.PutGroups.{set_is_put}
use Rattle.learner.proofs.open_places.put_voters.Goals as goal

pub returns-in-Some-clause-ok : goal.returns-in-Some-clause-ok
returns-in-Some-clause-ok c =
    let rows = c.args.counted.now.entries in
    let some : at rows c.args.place ≡ Some c.in-Some.groups.now = search rules in
    let is_put = set_is_put rows c.args.place c.in-Some.groups.now c.put.new.self c.get_mut.ensures.ordered some in
    on_ok_weaker c.put.result (λ is. (c.get_mut.follows.holds c.put.new.self).0 ∙ is_put ∙ ap (put rows c.args.place) (is ∙ ap (λ o. insert_entry proposal_cmp (unwrap_or o []) c.args.proposal c.args.voters) (sym some))) c.put.ensures.ok

pub returns-in-Some-clause-err : goal.returns-in-Some-clause-err
returns-in-Some-clause-err c =
    let rows = c.args.counted.now.entries in
    let some : at rows c.args.place ≡ Some c.in-Some.groups.now = search rules in
    on_err_weaker c.put.result (λ is. (c.get_mut.follows.holds c.put.new.self).0 ∙ set_value_same (is_at (nat_cmp c.args.place)) rows c.put.new.self (some ∙ ap Some (sym is))) c.put.ensures.err
