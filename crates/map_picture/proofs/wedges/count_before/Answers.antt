use Rattle.std.proofs.Common.{ltb, rules}
use Rattle.std.proofs.lemmas.Bool.{ltb-true, ltb-false}
use Rattle.std.proofs.lemmas.List.Sorted.{IsPartitionedBy-ltb, IsPartitionPoint-from_clause}
use Rattle.map_picture.specs.declared.sent.Sent.{Sent}
use Rattle.map_picture.specs.Wedges.{slot_of}
use Rattle.map_picture.proofs.wedges.count_before.Goals as goal

pub returns : goal.returns
returns c =
    let slot = c.args.slot in
    let found = IsPartitionPoint-from_clause (λ (t : Sent). ltb (slot_of t) slot) c.args.sent.now c.partition_point.result c.partition_point.ensures.partitioned (IsPartitionedBy-ltb slot_of c.args.sent.now slot c.requires) (λ a r f' k. search rules) in
    record {
      bound = c.partition_point.ensures.bound;
      before = λ i d from lt. ltb-true _ _ (found.0 i d from lt);
      from = λ i d from lt. ltb-false _ _ (found.1 i d from lt);
    }
