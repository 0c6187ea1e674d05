use Rattle.std.proofs.Common.{leb, sym, ◌∙◌, rules, arith}
use Rattle.std.proofs.lemmas.Bool.{leb-true, leb-false}
use Rattle.std.proofs.lemmas.List.Sorted.{IsPartitionedBy-leb, IsPartitionPoint-from_clause}
use Rattle.modem.specs.declared.kept.KeptInterval.{KeptInterval}
use Rattle.modem.specs.KeptIntervals.{place, place_of}
use Rattle.modem.proofs.Order.{all_before}
use Rattle.modem.proofs.kept.place_for.Goals as goal

pub returns-then-begins_by : goal.returns-then-begins_by
returns-then-begins_by c =
    let below = leb-true _ _ (sym c.begins_by.ensures ∙ c.if-begins_by.true) in
    all_before c.args.kept.now _ c.index-kept-len.result c.requires.ordered c.if-len-gt0.true (sym c.index-kept-len.is) (omega (arith, below))

pub returns : goal.returns
returns c =
    let at = place c.args.ch c.args.start in
    let found = IsPartitionPoint-from_clause (λ (y : KeptInterval). leb (place_of y) at) c.args.kept.now c.partition_point.result c.partition_point.ensures.partitioned (IsPartitionedBy-leb place_of c.args.kept.now at c.requires.ordered) (λ a r f' k. search rules) in
    record {
      bound = c.partition_point.ensures.bound;
      before = λ i d from lt. let low = leb-true _ _ (found.0 i d from lt) in omega (arith, low);
      from = λ i d from lt. let high = leb-false _ _ (found.1 i d from lt) in omega (arith, high);
    }
