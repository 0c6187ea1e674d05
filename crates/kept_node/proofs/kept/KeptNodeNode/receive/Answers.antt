use Rattle.std.proofs.Common.{ℕ, ◌<◌, refl, subst, sym}
use Rattle.kept_node.proofs.Calling.{received, stays_up, who}
use Rattle.kept_node.proofs.Noting.{notes_on}
use Rattle.kept_node.proofs.kept.KeptNodeNode.receive.Goals as goal

pub invariant_of-self : goal.invariant_of-self
invariant_of-self g c =
    let old = c.args.self.now in
    let a = old.node.parts in
    let b = c.receive-given.new.self.parts in
    let kept = c.receive-given.ensures.kept in
    let up = stays_up a b c.receive-given.result kept old.up in
    record {
      up = up;
      some = subst (λ (n : ℕ). 0 < n) (sym kept.1) old.some;
      waits = notes_on g.W.WriteStore old.noted c.note.new.self c.write_of-write.result (who a).id (who b).id a.records b.records c.note.ensures.store c.note.ensures.waits c.note.ensures.ended kept.0
          (λ ordered. received a b old.up up old.some ordered c.write_of-write.result kept.0 c.args.letter.now c.place_open-place.result c.receive-given.result (c.receive-given.ensures.done refl) c.place_open-place.ensures c.write_of-write.ensures)
          old.waits;
    }
