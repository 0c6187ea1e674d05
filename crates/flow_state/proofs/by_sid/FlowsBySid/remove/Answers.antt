use Rattle.std.proofs.Common.{◌≡◌, ◌<◌, false, length, is_some, nat_eq, Option, Some, None, refl, sym, ap, subst, ◌∙◌}
use Rattle.std.proofs.Common.{Bor}
use Rattle.std.specs.Option.{option_copied}
use Rattle.std.specs.Map.{lookup}
use Rattle.indexmap.specs.IndexMap.{set_value_at}
use Rattle.flow_state.specs.declared.flow.Flow.{Flow}
use Rattle.flow_state.specs.StoredFlows.{there}
use Rattle.flow_state.proofs.BySid.{unfound_kept, within_now, emptied_now, kept_written, sids_written}
use Rattle.flow_state.proofs.by_sid.FlowsBySid.remove.Goals as goal

copied : (o : Option (Bor Flow)) → is_some (option_copied o) ≡ is_some o
copied (Some b) = refl
copied None = refl

none_of : (o : Option Flow) → is_some o ≡ false → o ≡ None
none_of (Some f) h = absurd cc
none_of None h = refl

pub index_mut-requires : goal.index_mut-requires
index_mut-requires c =
    subst (λ n. n < length c.self.inside.places.entries) (sym c.place_of.ensures)
    (within_now c.self.inside c.args.self.now c.self.invariant c.self.view_is c.args.sid (ap is_some (sym c.get.ensures) ∙ copied c.get.result ∙ sym c.is_some-found.ensures ∙ c.if-found.true))

pub invariant_of-self : goal.invariant_of-self
invariant_of-self c = kept_written c.self.inside c.args.self.now c.self.invariant c.self.view_is c.place_of.result None

pub returns-then-found-clause-removed : goal.returns-then-found-clause-removed
returns-then-found-clause-removed c =
    ap (λ n. there (set_value_at c.self.inside.places.entries n None)) c.place_of.ensures
    ∙ emptied_now c.self.inside c.args.self.now c.self.invariant c.self.view_is c.args.sid (ap is_some (sym c.get.ensures) ∙ copied c.get.result ∙ sym c.is_some-found.ensures ∙ c.if-found.true)

pub returns-then-found-clause-sids : goal.returns-then-found-clause-sids
returns-then-found-clause-sids c = sids_written c.self.inside c.args.self.now c.self.invariant c.self.view_is c.place_of.result None

pub returns-else-found-clause-removed : goal.returns-else-found-clause-removed
returns-else-found-clause-removed c =
    sym (unfound_kept c.args.self.now.entries c.args.sid (none_of (lookup (nat_eq c.args.sid) c.args.self.now.entries) (ap is_some (sym c.get.ensures) ∙ copied c.get.result ∙ sym c.is_some-found.ensures ∙ c.if-found.false)))
