use Rattle.std.proofs.Common.{ltb, rules}
use Rattle.std.proofs.lemmas.Bool.{ltb-true, ltb-false}
use Rattle.std.proofs.lemmas.List.Sorted.{IsPartitionedBy-ltb, IsPartitionPoint-from_clause}
use Rattle.modem.specs.declared.kept.KeptInterval.{KeptInterval}
use Rattle.modem.specs.KeptIntervals.{place, place_of}
use Rattle.modem.proofs.kept.count_before.Goals as goal

pub returns : goal.returns
returns c =
    let at = place c.args.ch c.args.«at» in
    let found = IsPartitionPoint-from_clause (λ (y : KeptInterval). ltb (place_of y) at) c.args.kept.now c.partition_point.result c.partition_point.ensures.partitioned (IsPartitionedBy-ltb place_of c.args.kept.now at c.requires.ordered) (λ a r f' k. search rules) in
    record {
      bound = c.partition_point.ensures.bound;
      before = λ i d from lt. ltb-true _ _ (found.0 i d from lt);
      from = λ i d from lt. ltb-false _ _ (found.1 i d from lt);
    }
