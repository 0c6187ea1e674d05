use Rattle.std.proofs.Common.{◌≡◌, ◌∙◌, sym, subst, Ok}
use Rattle.proposer.specs.declared.fault.NodeFault.{NodeFault as Fault}
use Rattle.ballots.specs.Members.{member_count}
use Rattle.node.specs.Sched.{view_over}
use Rattle.node.specs.Learned.{Learned}
use Rattle.node.proofs.Orders.{lead_last}
use Rattle.node.proofs.Leading.{Ended, honest_before, lead_ends, lead_fails, stops_at}
use Rattle.node.proofs.Telling.{stopped}
use Rattle.node.proofs.parts.Parts.lead_up.Goals as goal

pub returns-in-Err-clause-done : goal.returns-in-Err-clause-done
returns-in-Err-clause-done g c honest content holds =
    let old = c.args.self.now in
    let before = honest_before g.R.Records.is_honest record old { records = c.lead.new.records; proposer = c.lead.new.self; knowledge = c.prefix_len-prefix.new.self } c.in-Err.fault c.stop.new.self c.stop.ensures.stops honest in
    rw c.stop.ensures.same
    (lead_fails g.R.Records.may_find old c.requires content holds c.prefix_len-prefix.result c.lead.new.records c.prefix_len-prefix.ensures.below c.prefix_len-prefix.ensures.full c.in-Err.fault c.stop.new.self
    (c.in-Err.ensures.declined before) (c.in-Err.ensures.harmless before) (c.in-Err.ensures.doubt before) (stops_at old c.lead.new.records c.lead.new.self c.prefix_len-prefix.new.self c.in-Err.fault c.stop.new.self c.prefix_len-prefix.ensures.same c.in-Err.ensures.unchanged c.stop.ensures.stops))

pub returns-in-Ok-clause-done : goal.returns-in-Ok-clause-done
returns-in-Ok-clause-done g c honest content holds =
    let old = c.args.self.now in
    let led = c.in-Ok.ensures.ok honest in
    subst (λ (k : Learned). Ended g.R.Records.may_find old c.requires content holds c.prefix_len-prefix.result c.lead.new.records c.prefix_len-prefix.ensures.below c.prefix_len-prefix.ensures.full (Ok c.in-Ok.letters.items) record old { records = c.lead.new.records; proposer = c.lead.new.self; knowledge = k }) (sym c.prefix_len-prefix.ensures.same)
    (lead_ends g.R.Records.may_find old c.requires content holds c.prefix_len-prefix.result c.lead.new.records c.prefix_len-prefix.ensures.below c.prefix_len-prefix.ensures.full
    c.lead.new.self c.in-Ok.letters.items led.0 c.in-Ok.ensures.room led.1 led.2 led.3 c.in-Ok.ensures.rest)

pub returns-in-Err-clause-order : goal.returns-in-Err-clause-order
returns-in-Err-clause-order g c honest content =
    let old = c.args.self.now in
    let before = honest_before g.R.Records.is_honest record old { records = c.lead.new.records; proposer = c.lead.new.self; knowledge = c.prefix_len-prefix.new.self } c.in-Err.fault c.stop.new.self c.stop.ensures.stops honest in
    rw c.stop.ensures.same (lead_last (member_count old.proposer.members) old.proposer.id (view_over old content) (g.R.Records.may_find old.records) old.proposer.hint c.prefix_len-prefix.result c.prefix_len-prefix.ensures.below c.in-Err.fault (c.in-Err.ensures.declined before))

pub returns-in-Err-clause-memory : goal.returns-in-Err-clause-memory
returns-in-Err-clause-memory g c honest is =
    let old = c.args.self.now in
    let out : c.in-Err.fault ≡ Fault.OutOfMemory = sym c.stop.ensures.same ∙ is in
    let before = honest_before g.R.Records.is_honest record old { records = c.lead.new.records; proposer = c.lead.new.self; knowledge = c.prefix_len-prefix.new.self } c.in-Err.fault c.stop.new.self c.stop.ensures.stops honest in
    rw (rw out at (stops_at old c.lead.new.records c.lead.new.self c.prefix_len-prefix.new.self c.in-Err.fault c.stop.new.self c.prefix_len-prefix.ensures.same c.in-Err.ensures.unchanged c.stop.ensures.stops)) (c.in-Err.ensures.memory before out)

pub returns-in-Err-clause-kept : goal.returns-in-Err-clause-kept
returns-in-Err-clause-kept g c =
    let old = c.args.self.now in
    rw c.stop.ensures.same (stopped g.R.Records.count_of g.R.Records.is_broken old c.lead.new.records c.requires c.in-Err.fault c.stop.new.self (stops_at old c.lead.new.records c.lead.new.self c.prefix_len-prefix.new.self c.in-Err.fault c.stop.new.self c.prefix_len-prefix.ensures.same c.in-Err.ensures.unchanged c.stop.ensures.stops) c.in-Err.ensures.count c.in-Err.ensures.broken)
