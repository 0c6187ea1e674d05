use Rattle.hosts.proofs.Joining.{join_as, join_kept, join_members, join_same, join_trust}
use Rattle.hosts.proofs.host.Host.join.Goals as goal

pub returns-clause-same : goal.returns-clause-same
returns-clause-same g c =
    join_same c.args.self.now c.join_state.new.self c.args.state.now c.join_state.result c.join_state.ensures.joins c.join_state.ensures.stays

pub returns-clause-members : goal.returns-clause-members
returns-clause-members g c =
    join_members c.args.self.now c.join_state.new.self c.args.state.now c.join_state.result c.join_state.ensures.joins c.join_state.ensures.stays

pub returns-clause-trust : goal.returns-clause-trust
returns-clause-trust g c =
    join_trust c.args.self.now c.join_state.new.self c.args.state.now c.join_state.result c.join_state.ensures.joins c.join_state.ensures.stays

pub returns-clause-kept : goal.returns-clause-kept
returns-clause-kept g c =
    join_kept c.args.self.now c.join_state.new.self c.args.state.now c.join_state.result c.join_state.ensures.joins c.join_state.ensures.stays

pub returns-clause-moves : goal.returns-clause-moves
returns-clause-moves g c =
    join_as c.one_spelling_of_states.ensures.one c.schedulers_follow_values.ensures.on c.epochs_join.ensures.on c.args.self.now c.join_state.new.self c.args.state.now
    c.join_state.result c.join_state.ensures.joins c.join_state.ensures.stays
