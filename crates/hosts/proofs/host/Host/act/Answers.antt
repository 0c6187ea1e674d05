use Rattle.seats.specs.Acted.{ask_of}
use Rattle.hosts.proofs.ActedLemmas.{acts_members, acts_moves, acts_same, acts_trust}
use Rattle.hosts.proofs.host.Host.act.Goals as goal

pub returns-clause-same : goal.returns-clause-same
returns-clause-same g c = acts_same c.args.self.now c.act_near.new.self c.args.epoch c.args.places (ask_of c.args.asked) c.act_near.result c.act_near.ensures.acts

pub returns-clause-members : goal.returns-clause-members
returns-clause-members g c = acts_members c.args.self.now c.act_near.new.self c.args.epoch c.args.places (ask_of c.args.asked) c.act_near.result c.act_near.ensures.acts

pub returns-clause-trust : goal.returns-clause-trust
returns-clause-trust g c = acts_trust c.args.self.now c.act_near.new.self c.args.epoch c.args.places (ask_of c.args.asked) c.act_near.result c.act_near.ensures.acts

pub returns-clause-moves : goal.returns-clause-moves
returns-clause-moves g c = acts_moves c.args.self.now c.act_near.new.self c.args.epoch c.args.places (ask_of c.args.asked) c.act_near.result c.act_near.ensures.acts
