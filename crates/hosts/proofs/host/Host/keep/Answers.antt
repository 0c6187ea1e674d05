use Rattle.std.proofs.lemmas.Result.{on_ok_weaker}
use Rattle.hosts.proofs.Keeps.{keeps_stands, same_members, same_trust}
use Rattle.hosts.proofs.host.Host.keep.Goals as goal

pub returns-clause-stands : goal.returns-clause-stands
returns-clause-stands g c = on_ok_weaker c.keep_each.result (λ keeps. keeps_stands c.args.self.now c.keep_each.new.self keeps) c.keep_each.ensures.keeps

pub returns-clause-members : goal.returns-clause-members
returns-clause-members g c = same_members c.args.self.now c.keep_each.new.self c.keep_each.ensures.nodes

pub returns-clause-trust : goal.returns-clause-trust
returns-clause-trust g c = same_trust c.args.self.now c.keep_each.new.self c.keep_each.ensures.nodes
