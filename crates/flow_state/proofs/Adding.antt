-- The cases of a flow that is added.
use Rattle.std.proofs.Common.{◌≡◌, ℕ, Bool, true, cond, not, ◌&&◌, Option, Some, None, sym, ap, ◌∙◌, is_some, is_none}
use Rattle.std.proofs.Common.{unwrap_or}
use Rattle.flow_state.specs.declared.flow.FlowKind.{FlowKind}
use Rattle.flow_state.specs.declared.refusal.Refusal.{Refusal}
use Rattle.flow_state.specs.declared.refusal.Refusal.TheVariants.{SidsSpent, BadValue}
use Rattle.flow_state.specs.Limits.{is_good_kind}
use Rattle.flow_state.specs.Rows.{Table, Lease, lease_of, free_sid}
use Rattle.flow_state.specs.Refusals.{is_good_last, table_flow_refusal}
use Rattle.flow_state.specs.Changes.{new_lease, lease_among, lease_for, flow_among, flow_in_table, add_to_table}

abbrev first : Bool → Bool → Bool → Option Refusal
first known good spent = cond known None (cond (not good) (Some BadValue) (cond spent (Some SidsSpent) None))

module _ (t : Table) (modem tag last : ℕ) (kind : FlowKind) where
  refusal_by : (known : Option Lease) (good : Bool) (free : Option ℕ) → known ≡ lease_of t modem tag → (is_good_kind kind && is_good_last t last) ≡ good → free ≡ free_sid t → table_flow_refusal t modem tag last kind ≡ first (is_some known) good (is_none free)
  refusal_by known good free k g f =
      ap (λ (o : Option Lease). first (is_some o) (is_good_kind kind && is_good_last t last) (is_none (free_sid t))) (sym k)
      ∙ ap (λ b. first (is_some known) b (is_none (free_sid t))) g
      ∙ ap (λ (o : Option ℕ). first (is_some known) good (is_none o)) (sym f)

  -- modem and tag that have no lease which isn't over
  pub new_refusal : (sid : ℕ) → None ≡ lease_of t modem tag → (is_good_kind kind && is_good_last t last) ≡ true → Some sid ≡ free_sid t → table_flow_refusal t modem tag last kind ≡ None
  new_refusal sid k good free = refusal_by None true (Some sid) k good free

  pub lease_is : (sid : ℕ) → None ≡ lease_of t modem tag → Some sid ≡ free_sid t → new_lease t modem tag last sid ≡ lease_for t modem tag last
  lease_is sid k free = ap (λ (o : Option ℕ). new_lease t modem tag last (unwrap_or o 0)) free ∙ ap (λ (o : Option Lease). lease_among o t modem tag last) k

  pub table_is : (sid : ℕ) → None ≡ lease_of t modem tag → Some sid ≡ free_sid t → add_to_table t (new_lease t modem tag last sid) kind ≡ flow_in_table t modem tag last kind
  table_is sid k free = ap (λ (o : Option ℕ). add_to_table t (new_lease t modem tag last (unwrap_or o 0)) kind) free ∙ ap (λ (o : Option Lease). flow_among o t modem tag last kind) k
