use Rattle.kept_node.proofs.Calling.{who}
use Rattle.kept_node.proofs.Noting.{fails_then, has_kept, notes_then}
use Rattle.kept_node.proofs.keeping.KeptNodeKeeps.keep.Goals as goal

pub invariant_of-self : goal.invariant_of-self
invariant_of-self g c =
    let old = c.args.self.now in
    let n = old.node.parts in
    record {
      up = old.up;
      some = old.some;
      waits = notes_then g.W.WriteStore old.noted c.store_waiting.new.self c.id-id.result (who n).id n.records c.store_waiting.result c.id-id.ensures.id c.store_waiting.ensures.stored c.store_waiting.ensures.fails old.waits;
    }

pub returns-in-Ok-clause-kept : goal.returns-in-Ok-clause-kept
returns-in-Ok-clause-kept g c =
    let old = c.args.self.now in
    let n = old.node.parts in
    has_kept g.W.WriteStore c.store_waiting.new.self (who n).id n.records c.in-Ok.ensures.goes_on c.in-Ok.ensures.none
    (notes_then g.W.WriteStore old.noted c.store_waiting.new.self c.id-id.result (who n).id n.records c.store_waiting.result c.id-id.ensures.id c.store_waiting.ensures.stored c.store_waiting.ensures.fails old.waits)

pub returns-in-Err-clause-fails : goal.returns-in-Err-clause-fails
returns-in-Err-clause-fails g c =
    let old = c.args.self.now in
    let n = old.node.parts in
    (c.in-Err.fault, c.from.ensures, fails_then g.W.WriteStore old.noted c.store_waiting.new.self c.id-id.result (who n).id n.records c.in-Err.fault c.id-id.ensures.id c.in-Err.ensures.fails old.waits)
