use Rattle.std.proofs.Common.{refl, sym, ap}
use Rattle.std.proofs.Math.Logic.{∥∥₁_map}
use Rattle.node.specs.Learned.{Learned}
use Rattle.node.specs.View.{made}
use Rattle.node.specs.View.Standing.{Running}
use Rattle.node.proofs.sched.SchedNode.new.Goals as goal

pub returns-clause-stands : goal.returns-clause-stands
returns-clause-stands g c content holds = (refl, (λ i. record { content = content; role = sym c.new.ensures.role i; hint = sym c.new.ensures.hint i; tally = ap (λ (l : Learned). l.tally) (sym c.new-2.ensures) i; cursor = ap (λ (l : Learned). l.cursor) (sym c.new-2.ensures) i }), holds)

pub invariant_of-result : goal.invariant_of-result
invariant_of-result g c = record {
  somewhere = λ honest. ∥∥₁_map (c.requires.certain honest)
      (λ held. (Running (made held.0), (refl, (λ i. record { content = held.0; role = sym c.new.ensures.role i; hint = sym c.new.ensures.hint i; tally = ap (λ (l : Learned). l.tally) (sym c.new-2.ensures) i; cursor = ap (λ (l : Learned). l.cursor) (sym c.new-2.ensures) i }), held.1)));
}
