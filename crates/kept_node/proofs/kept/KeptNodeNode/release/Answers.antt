use Rattle.std.proofs.Common.{ℕ, ◌<◌, refl, subst, sym}
use Rattle.kept_node.proofs.Calling.{released, stays_up, who}
use Rattle.kept_node.proofs.Noting.{still_notes}
use Rattle.kept_node.proofs.kept.KeptNodeNode.release.Goals as goal

pub invariant_of-self : goal.invariant_of-self
invariant_of-self g c =
    let old = c.args.self.now in
    let a = old.node.parts in
    let b = c.release.new.self.parts in
    let kept = c.release.ensures.kept in
    let up = stays_up a b c.release.result kept old.up in
    record {
      up = up;
      some = subst (λ (n : ℕ). 0 < n) (sym kept.1) old.some;
      waits = still_notes g.W.WriteStore old.noted (who a).id (who b).id a.records b.records kept.0 (released a b old.up up c.args.now c.release.result (c.release.ensures.done refl)) old.waits;
    }
