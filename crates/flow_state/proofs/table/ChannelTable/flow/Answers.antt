use Rattle.std.proofs.Common.{◌≡◌, ◌≤◌, ℕ, Bor, Option, Some, None, refl, sym, ap, subst, ◌∙◌, arith, slice_get, length}
use Rattle.std.specs.Prelude.{IfSome}
use Rattle.std.specs.Option.{option_map, option_copied}
use Rattle.std.proofs.lemmas.Option.{slice_get-map}
use Rattle.flow_state.specs.declared.flow.Flow.{Flow}
use Rattle.flow_state.specs.Limits.{last_sid}
use Rattle.flow_state.specs.Rows.{Table, FlowRow, lent_flow}
use Rattle.flow_state.specs.View.{flow_view, table_view}
use Rattle.flow_state.proofs.Stored.{lent_one, good_at, sid_at}
use Rattle.flow_state.proofs.table.ChannelTable.flow.Goals as goal

-- what holds of the flow that is lent
holds : (o : Option (Bor Flow)) (q : Option (ℕ × Flow)) (P : Flow → Type 0) → option_copied o ≡ option_map (λ e. e.1) q → ((e : ℕ × Flow) → q ≡ Some e → P e.1) → IfSome o (λ b. P b.now)
holds (Some b) (Some e) P same h = let at : e.1 ≡ b.now = cc in subst P at (h e refl)
holds (Some b) None P same h = absurd cc
holds None q P same h = tt

pub returns-clause-row : goal.returns-clause-row
returns-clause-row c =
    c.nth.ensures ∙ lent_one c.self.inside.flows.entries c.args.k c.self.invariant.flows
    ∙ ap (λ (o : Option FlowRow). option_map lent_flow o) (sym (slice_get-map (λ (e : ℕ × Flow). flow_view e.1) c.self.inside.flows.entries c.args.k))
    ∙ ap (λ (t : Table). option_map lent_flow (slice_get t.flows c.args.k)) c.self.view_is

pub returns-clause-good : goal.returns-clause-good
returns-clause-good c = holds c.nth.result _ _ c.nth.ensures (λ e at. good_at c.self.inside.flows.entries c.args.k e c.self.invariant.sound.kinds at)

pub returns-clause-unicast : goal.returns-clause-unicast
returns-clause-unicast c = holds c.nth.result _ (λ (f : Flow). (1 ≤ f.lease.sid) × (f.lease.sid ≤ last_sid)) c.nth.ensures (λ e at.
    let range = sid_at c.self.inside.flows.entries c.args.k e 0 (length (table_view c.self.inside).leases) c.self.invariant.sound.rising at in
    let few : length (table_view c.self.inside).leases ≤ last_sid = c.self.invariant.sound.few in
    (omega (arith, range.0), omega (arith, range.1)))
