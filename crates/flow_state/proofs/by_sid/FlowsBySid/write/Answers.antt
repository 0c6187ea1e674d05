use Rattle.std.proofs.Common.{◌<◌, length, Some, sym, ap, subst, ◌∙◌}
use Rattle.indexmap.specs.IndexMap.{set_value_at}
use Rattle.flow_state.specs.StoredFlows.{there}
use Rattle.flow_state.proofs.BySid.{within_now, written_now, kept_written, sids_written}
use Rattle.flow_state.proofs.by_sid.FlowsBySid.write.Goals as goal

pub index_mut-requires : goal.index_mut-requires
index_mut-requires c =
    subst (λ n. n < length c.self.inside.places.entries) (sym c.place_of.ensures)
    (within_now c.self.inside c.args.self.now c.self.invariant c.self.view_is c.args.sid c.requires)

pub invariant_of-self : goal.invariant_of-self
invariant_of-self c = kept_written c.self.inside c.args.self.now c.self.invariant c.self.view_is c.place_of.result (Some c.args.flow)

pub returns-clause-written : goal.returns-clause-written
returns-clause-written c =
    ap (λ n. there (set_value_at c.self.inside.places.entries n (Some c.args.flow))) c.place_of.ensures
    ∙ written_now c.self.inside c.args.self.now c.self.invariant c.self.view_is c.args.sid c.args.flow c.requires

pub returns-clause-sids : goal.returns-clause-sids
returns-clause-sids c = sids_written c.self.inside c.args.self.now c.self.invariant c.self.view_is c.place_of.result (Some c.args.flow)
