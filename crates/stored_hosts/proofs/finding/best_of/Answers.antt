use Rattle.std.proofs.Common.{◌≡◌, ◌≤◌, rules, subst, take_all, length, get_or}
use Rattle.stored_hosts.specs.Finding.{IsBest}
use Rattle.stored_hosts.proofs.Best.{best_more, none_of_none}
use Rattle.stored_hosts.proofs.finding.best_of.Goals as goal

pub loop-file-init : goal.loop-file-init
loop-file-init c = none_of_none

pub loop-file-preserved : goal.loop-file-preserved
loop-file-preserved c =
    let here : get_or c.args.files.now c.loop-file.file-index c.file-item.result ≡ c.file-item.result = search rules in
    best_more c.args.files.now c.loop-file.file-index c.file-item.result c.loop-file-test.true here c.loop-file.best c.in_ok-state.state c.later-best.result c.later-best.ensures
    c.loop-file.invariant c.in_ok-state.ensures.found

pub returns-clause-best : goal.returns-clause-best
returns-clause-best c =
    let all : length c.args.files.now ≤ c.loop-file.file-index = search rules in
    subst (λ files. IsBest files c.loop-file.best) (take_all c.loop-file.file-index c.args.files.now all) c.loop-file.invariant
