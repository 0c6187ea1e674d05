-- What a service gives a flow, and the flow's due times.
use Rattle.std.proofs.Common.{◌≡◌, ℕ, ◌-◌, ◌/◌, ◌≤◌, true, Some, refl, sym, ap, subst, ◌∙◌}
use Rattle.std.proofs.lemmas.Bool.{and_parts}
use Rattle.std.proofs.lemmas.Option.{same_Some}
use Rattle.flow_state.specs.declared.channel.Channel.{Channel}
use Rattle.flow_state.specs.declared.flow.FlowKind.{FlowKind}
use Rattle.flow_state.specs.declared.flow.FlowKind.TheVariants.{BestEffort, Ugs, Poll, Station, Initial}
use Rattle.flow_state.specs.Limits.{is_good_kind, due_time, due_index}
use Rattle.flow_state.proofs.Callers.{number_is, some_interval}
use Rattle.grant_machine_parts.specs.declared.services.Service.{Service}
use Rattle.grant_machine_parts.specs.declared.services.Service.TheVariants.{Grants, Polls, Maintenance}
use Rattle.grant_machine_parts.specs.Cutting.{Periodic, due_at}
use Rattle.grant_machine_parts.specs.Lent.{given}

-- a flow's due times are those of what it is given
pub record GivenDue (kind : FlowKind) (p : Periodic) : Type 0 where
  pub pos : 1 ≤ p.interval
  pub index : (due : ℕ) → due_index kind due ≡ (due - p.base) / p.interval
  pub time : (i : ℕ) → due_time kind i ≡ due_at p i

pub given_due : (service : Service) (c : Channel) (sid last : ℕ) (kind : FlowKind) (p : Periodic) → given service c sid last kind ≡ Some p → is_good_kind kind ≡ true → GivenDue kind p
given_due Grants c sid last (BestEffort priority) p e good = absurd cc
given_due Grants c sid last (Ugs size interval jitter base) p e good = subst (GivenDue (Ugs size interval jitter base)) (same_Some _ p e) (record { pos = some_interval interval jitter base (and_parts _ _ good).1; index = λ d. refl; time = λ i. refl })
given_due Grants c sid last (Poll interval jitter base) p e good = absurd cc
given_due Grants c sid last (Station size interval jitter base) p e good = absurd cc
given_due Grants c sid last (Initial size interval jitter base) p e good = absurd cc
given_due Polls c sid last (BestEffort priority) p e good = absurd cc
given_due Polls c sid last (Ugs size interval jitter base) p e good = absurd cc
given_due Polls c sid last (Poll interval jitter base) p e good = subst (GivenDue (Poll interval jitter base)) (same_Some _ p e) (record { pos = some_interval interval jitter base good; index = λ d. refl; time = λ i. refl })
given_due Polls c sid last (Station size interval jitter base) p e good = absurd cc
given_due Polls c sid last (Initial size interval jitter base) p e good = absurd cc
given_due Maintenance c sid last (BestEffort priority) p e good = absurd cc
given_due Maintenance c sid last (Ugs size interval jitter base) p e good = absurd cc
given_due Maintenance c sid last (Poll interval jitter base) p e good = absurd cc
given_due Maintenance c sid last (Station size interval jitter base) p e good = subst (GivenDue (Station size interval jitter base)) (same_Some _ p e) (record { pos = some_interval interval jitter base (and_parts _ _ good).1; index = λ d. refl; time = λ i. refl })
given_due Maintenance c sid last (Initial size interval jitter base) p e good = subst (GivenDue (Initial size interval jitter base)) (same_Some _ p e) (record { pos = some_interval interval jitter base (and_parts _ _ good).1; index = λ d. refl; time = λ i. refl })

-- the number of due time number i is i
pub round : (kind : FlowKind) (p : Periodic) (i : ℕ) → GivenDue kind p → due_index kind (due_at p i) ≡ i
round kind p i g = g.index (due_at p i) ∙ number_is p.base p.interval i g.pos

pub round_due : (kind : FlowKind) (p : Periodic) (i : ℕ) → GivenDue kind p → due_at p i ≡ due_time kind (due_index kind (due_at p i))
round_due kind p i g = sym (g.time i) ∙ ap (due_time kind) (sym (round kind p i g))
