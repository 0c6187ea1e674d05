use Rattle.grant_machine.specs.declared.output.Output.TheVariants.{Assigned, ChannelSet, Map as MapOutput}
use Rattle.modem.proofs.Stands.{stands_if_ok}
use Rattle.modem.proofs.modem.Modem.hear.Goals as goal

pub returns-in-ChannelSet-clause-stands : goal.returns-in-ChannelSet-clause-stands
returns-in-ChannelSet-clause-stands c =
    rw c.in-ChannelSet.is (stands_if_ok c.hear_channel.result c.args.self.now c.hear_channel.new.self (ChannelSet c.in-ChannelSet.ch c.in-ChannelSet.ucd) c.args.near c.hear_channel.ensures.ok)

pub returns-in-Assigned-clause-stands : goal.returns-in-Assigned-clause-stands
returns-in-Assigned-clause-stands c =
    rw c.in-Assigned.is (stands_if_ok c.hear_assigned.result c.args.self.now c.hear_assigned.new.self (Assigned c.in-Assigned.modem c.in-Assigned.ch c.in-Assigned.sid c.in-Assigned.first c.in-Assigned.last) c.args.near c.hear_assigned.ensures.ok)

pub returns-in-Map-clause-stands : goal.returns-in-Map-clause-stands
returns-in-Map-clause-stands c =
    rw c.in-Map.is (stands_if_ok c.hear_map.result c.args.self.now c.hear_map.new.self (MapOutput c.in-Map.ch c.in-Map.start c.in-Map.len c.in-Map.bytes) c.args.near (rw c.as_slice.ensures at c.hear_map.ensures.ok))

pub returns-in-Map-clause-lets_go : goal.returns-in-Map-clause-lets_go
returns-in-Map-clause-lets_go c = rw c.in-Map.is (rw c.as_slice.ensures at c.hear_map.ensures.lets_go)

pub returns-in-Assigned-clause-ok : goal.returns-in-Assigned-clause-ok
returns-in-Assigned-clause-ok c = rw c.in-Assigned.is c.hear_assigned.ensures.ok
