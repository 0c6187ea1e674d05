use Rattle.std.proofs.Common.{ap, ◌∙◌}
use Rattle.flow_state.specs.Rows.{Table}
use Rattle.flow_state.specs.StoredTable.{with_lease}
use Rattle.flow_state.proofs.Filling.{stored_leased, stored_placed, view_leased}
use Rattle.flow_state.proofs.table.ChannelTable.put_lease.Goals as goal

pub invariant_of-self-2 : goal.invariant_of-self-2
invariant_of-self-2 c =
    stored_leased c.self.inside c.args.self.now c.self.invariant c.self.view_is c.args.lease c.requires.next c.requires.unicast
    c.make_place.new.self c.put.new.self c.make_place.ensures.kept c.in_ok-put.ensures.ok c.in_ok-make_place.ensures.made

pub returns : goal.returns
returns c =
    view_leased c.self.inside c.args.self.now c.self.invariant c.self.view_is c.args.lease c.requires.next c.requires.unicast
    c.make_place.new.self c.put.new.self c.make_place.ensures.kept c.in_ok-put.ensures.ok
    ∙ ap (λ (t : Table). with_lease t c.args.lease) c.self.view_is

-- where there is no room
pub invariant_of-self-in_err-put : goal.invariant_of-self-in_err-put
invariant_of-self-in_err-put c =
    stored_placed c.self.inside c.args.self.now c.self.invariant c.self.view_is c.args.lease c.requires.next c.requires.unicast
    c.make_place.new.self c.make_place.ensures.kept c.make_place.ensures.more c.put.new.self c.in_err-put.ensures.err
