-- A node of honest records stands somewhere, and a call keeps that.
use Rattle.std.proofs.Common.{◌≡◌, Bool, IsTrue, Result, Vec, false}
use Rattle.std.specs.declared.alloc.Global.{Global}
use Rattle.std.proofs.Math.Logic.{∥∥₁_map}
use Rattle.ballots.specs.declared.letters.Letter.{Letter}
use Rattle.acceptor.specs.Content.{Content}
use Rattle.node.specs.View.{View, Standing}
use Rattle.node.specs.View.Standing.{Running, Stopped}
use Rattle.node.specs.Step.{Outcome}
use Rattle.node.specs.Sched.{Stands, Does}
use Rattle.proposer.specs.declared.fault.NodeFault.{NodeFault as Fault}
use Rattle.node.specs.declared.parts.Parts.{Parts}
use Rattle.node.proofs.Endings.{for_view}

module _ {R : Type 0} (may_find : R → Content → Type 0) (is_honest : R → Bool) where
  -- where its records are honest, the node stands somewhere
  abbrev pub IsSomewhere : Parts R → Type 0
  IsSomewhere n = IsTrue (is_honest n.records) → ∥ ((s : Standing) × Stands may_find n s) ∥₁

  -- a call that answers for each standing
  pub goes_on : (old new : Parts R) → (CallEnds : Standing → Standing → Type 0) → IsSomewhere old → (IsTrue (is_honest new.records) → IsTrue (is_honest old.records))
      → (IsTrue (is_honest new.records) → (s : Standing) → Stands may_find old s → (t : Standing) × CallEnds s t × Stands may_find new t) → IsSomewhere new
  goes_on old new CallEnds was honesty done honest = ∥∥₁_map (was (honesty honest)) (λ at. let after = done honest at.0 at.1 in (after.0, after.2))

  -- a part of a call of a node that is up
  pub does_on : (old new : Parts R) → old.is_down ≡ false → (IsCourse : View → Result Outcome Fault → Type 0) (result : Result (Vec Letter Global) Fault) → IsSomewhere old
      → (IsTrue (is_honest new.records) → IsTrue (is_honest old.records)) → (IsTrue (is_honest new.records) → Does may_find old IsCourse result new) → IsSomewhere new
  does_on old new up IsCourse result was honesty done honest = ∥∥₁_map (was (honesty honest)) by_standing
    where
      by_standing : (s : Standing) × Stands may_find old s → (t : Standing) × Stands may_find new t
      by_standing (Running view, stands) = let after = for_view may_find old new IsCourse result (done honest) view stands in (after.0, after.2)
      by_standing (Stopped c doubt, stands) = absurd (cc (up, stands.0))
