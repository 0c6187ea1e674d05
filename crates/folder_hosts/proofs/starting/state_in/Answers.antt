use Rattle.std.proofs.Common.{◌≤◌, rules, length}
use Rattle.folder_hosts.proofs.Looked.{IsNoState, no_state, not_state, of_all, of_more, of_none, state_there}
use Rattle.folder_hosts.proofs.starting.state_in.Goals as goal

pub loop-file-init : goal.loop-file-init
loop-file-init c = of_none IsNoState

pub loop-file-preserved : goal.loop-file-preserved
loop-file-preserved c =
    of_more IsNoState c.args.files.now c.loop-file.file-index _ c.loop-file-test.true c.loop-file.invariant (not_state _ c.is_state.result c.is_state.ensures c.if-is_state.false)

pub returns-then-is_state : goal.returns-then-is_state
returns-then-is_state c = state_there c.args.files.now c.loop-file.file-index _ c.loop-file-test.true (c.is_state.ensures.0 c.if-is_state.true)

pub returns : goal.returns
returns c =
    let all : length c.args.files.now ≤ c.loop-file.file-index = search rules in
    no_state c.args.files.now (of_all IsNoState c.args.files.now c.loop-file.file-index all c.loop-file.invariant)
