use Rattle.std.proofs.Common.{ℕ, ◌<◌, refl, subst, sym}
use Rattle.kept_node.proofs.Calling.{blank, offered, stays_up, who}
use Rattle.kept_node.proofs.Noting.{notes_on}
use Rattle.kept_node.proofs.kept.KeptNodeNode.offer.Goals as goal

pub invariant_of-self : goal.invariant_of-self
invariant_of-self g c =
    let old = c.args.self.now in
    let a = old.node.parts in
    let b = c.offer.new.self.parts in
    let kept = c.offer.ensures.kept in
    let up = stays_up a b c.offer.result kept old.up in
    record {
      up = up;
      some = subst (λ (n : ℕ). 0 < n) (sym kept.1) old.some;
      waits = notes_on g.W.WriteStore old.noted old.noted (blank (who a).id) (who a).id (who b).id a.records b.records refl (λ goes. refl) (λ goes. goes) kept.0
          (λ ordered. offered a b old.up up old.some ordered c.args.value.now c.offer.result (c.offer.ensures.done refl)) old.waits;
    }
