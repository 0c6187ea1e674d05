use Rattle.std.proofs.Common.{ℕ, Option, ap, ◌∙◌}
use Rattle.std.specs.Option.{option_and_then}
use Rattle.flow_state.specs.declared.flow.Flow.{Flow}
use Rattle.flow_state.proofs.by_sid.flow_at.Goals as goal

pub returns-in-Some : goal.returns-in-Some
returns-in-Some c = c.as_ref.ensures.value ∙ ap (λ (o : Option (ℕ × Option Flow)). option_and_then (λ p. p.1) o) c.in-Some.ensures.entry

pub returns-in-None : goal.returns-in-None
returns-in-None c = ap (λ (o : Option (ℕ × Option Flow)). option_and_then (λ p. p.1) o) c.in-None.ensures.entry
