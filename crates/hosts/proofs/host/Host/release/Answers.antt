use Rattle.std.proofs.Common.{rules}
use Rattle.hosts.specs.Shifting.{GoesOn}
use Rattle.hosts.specs.Taking.{IsAllOf}
use Rattle.hosts.proofs.Going.{gives_all, goes_kept, goes_members, goes_stores, goes_trust, lacks_memory, then_stores}
use Rattle.hosts.proofs.Going.{then_trust}
use Rattle.hosts.proofs.Taken.{keeps_kept, keeps_members}
use Rattle.hosts.proofs.host.Host.release.Goals as goal

pub returns-then-is_err-clause-members : goal.returns-then-is_err-clause-members
returns-then-is_err-clause-members g c =
    let went : GoesOn c.args.self.now c.go_on.new.self = search rules in
    λ members. keeps_members c.go_on.new.self c.take_up.new.self c.take_up.ensures.takes.nodes (goes_members c.args.self.now c.go_on.new.self went members)

pub returns-then-is_err-clause-trust : goal.returns-then-is_err-clause-trust
returns-then-is_err-clause-trust g c =
    let went : GoesOn c.args.self.now c.go_on.new.self = search rules in
    then_trust c.args.self.now c.go_on.new.self c.take_up.new.self (goes_trust c.args.self.now c.go_on.new.self went) c.take_up.ensures.takes.nodes

pub returns-then-is_err-clause-moves : goal.returns-then-is_err-clause-moves
returns-then-is_err-clause-moves g c =
    let went : GoesOn c.args.self.now c.go_on.new.self = search rules in
    lacks_memory c.schedulers_follow_values.ensures.next c.epochs_join.ensures.on c.args.self.now c.go_on.new.self c.take_up.new.self c.args.now went c.take_up.ensures.takes

pub returns-then-is_err-clause-kept : goal.returns-then-is_err-clause-kept
returns-then-is_err-clause-kept g c =
    let went : GoesOn c.args.self.now c.go_on.new.self = search rules in
    λ kept. keeps_kept c.go_on.new.self c.take_up.new.self c.take_up.ensures.takes.nodes (goes_kept c.args.self.now c.go_on.new.self went kept)

pub returns-then-is_err-clause-stores : goal.returns-then-is_err-clause-stores
returns-then-is_err-clause-stores g c =
    let went : GoesOn c.args.self.now c.go_on.new.self = search rules in
    then_stores c.args.self.now c.go_on.new.self c.take_up.new.self c.take_up.ensures.takes.nodes (goes_stores c.args.self.now c.go_on.new.self went)

pub returns-clause-members : goal.returns-clause-members
returns-clause-members g c =
    let went : GoesOn c.args.self.now c.go_on.new.self = search rules in
    λ members. keeps_members c.take_up.new.self c.give.new.self c.give.ensures.nodes
    (keeps_members c.go_on.new.self c.take_up.new.self c.take_up.ensures.takes.nodes (goes_members c.args.self.now c.go_on.new.self went members))

pub returns-clause-trust : goal.returns-clause-trust
returns-clause-trust g c =
    let went : GoesOn c.args.self.now c.go_on.new.self = search rules in
    then_trust c.args.self.now c.take_up.new.self c.give.new.self
    (then_trust c.args.self.now c.go_on.new.self c.take_up.new.self (goes_trust c.args.self.now c.go_on.new.self went) c.take_up.ensures.takes.nodes) c.give.ensures.nodes

pub returns-clause-kept : goal.returns-clause-kept
returns-clause-kept g c =
    let went : GoesOn c.args.self.now c.go_on.new.self = search rules in
    λ kept. keeps_kept c.take_up.new.self c.give.new.self c.give.ensures.nodes
    (keeps_kept c.go_on.new.self c.take_up.new.self c.take_up.ensures.takes.nodes (goes_kept c.args.self.now c.go_on.new.self went kept))

pub returns-clause-stores : goal.returns-clause-stores
returns-clause-stores g c =
    let went : GoesOn c.args.self.now c.go_on.new.self = search rules in
    then_stores c.args.self.now c.take_up.new.self c.give.new.self c.give.ensures.nodes
    (then_stores c.args.self.now c.go_on.new.self c.take_up.new.self c.take_up.ensures.takes.nodes (goes_stores c.args.self.now c.go_on.new.self went))

pub returns-clause-moves : goal.returns-clause-moves
returns-clause-moves g c =
    let went : GoesOn c.args.self.now c.go_on.new.self = search rules in
    let all : IsAllOf c.go_on.new.self.own c.go_on.new.self.places c.take_up.new.self.taken = search rules in
    gives_all c.schedulers_follow_values.ensures.next c.schedulers_follow_values.ensures.handed c.epochs_join.ensures.on c.args.self.now c.go_on.new.self c.take_up.new.self c.give.new.self
    c.args.now c.give.result went c.take_up.ensures.takes all c.give.ensures
