use Rattle.std.proofs.Common.{◌≡◌, ◌∙◌, ◌<◌, ◌≤◌, ◌+◌, ℕ, length, take, get_or, set, sym, subst, arith, refl}
use Rattle.std.proofs.Common.{below_more, length-set}
use Rattle.node_worker.specs.Legal.{entries_of}
use Rattle.node_worker.specs.Audits.{Fits, FitsAt}
use Rattle.node_worker.proofs.Onward.{follows_fits, fits_here, counted_more, few_of}
use Rattle.node_worker.proofs.audits.count_fitting.Goals as goal

-- the node has few enough records
pub overflow_add-counts : goal.overflow_add-counts
overflow_add-counts g c =
    let own : get_or c.loop-i.counts c.from-node.result 0 ≡ length (entries_of c.from-node.result (take c.loop-i.i c.args.records.now)) = c.loop-i.invariant.1 c.from-node.result (omega arith) in
    let few : length (entries_of c.from-node.result (take c.loop-i.i c.args.records.now)) ≤ c.loop-i.i = few_of c.from-node.result c.args.records.now c.loop-i.i in
    omega arith

-- the node has so many records
counted : (g : _) (c : goal.Else-not-follows g) → get_or c.loop-i.counts c.from-node.result 0 ≡ length (entries_of c.index-records-i.result.node (take c.loop-i.i c.args.records.now))
counted g c =
    let P : ℕ → Type 0 = λ k. get_or c.loop-i.counts c.from-node.result 0 ≡ length (entries_of k (take c.loop-i.i c.args.records.now)) in
    subst P (c.from-node.ensures ∙ c.number.ensures.same) (c.loop-i.invariant.1 c.from-node.result (omega arith))

pub loop-i-preserved : goal.loop-i-preserved
loop-i-preserved g c =
    let both = c.if-not-follows.ensures.0 refl in
    let n = get_or c.loop-i.counts c.from-node.result 0 in
    let here : Fits c.args.kepts.now (take c.loop-i.i c.args.records.now) c.index-records-i.result =
    follows_fits c.args.kepts.now c.args.records.now c.loop-i.i n c.index-records-i.result (omega arith) c.loop-i.invariant.0 (counted g c) both.0 both.1 in
    let its : c.index-records-i.result.node ≡ c.from-node.result = sym (c.from-node.ensures ∙ c.number.ensures.same) in
    let P : ℕ → Type 0 = λ m. (k : ℕ) → k < 5 → get_or (set c.loop-i.counts m (n + 1)) k 0 ≡ length (entries_of k (take (c.loop-i.i + 1) c.args.records.now)) in (
      below_more (FitsAt c.args.kepts.now c.args.records.now) c.loop-i.i c.loop-i.invariant.0
          (fits_here c.args.kepts.now c.args.records.now c.loop-i.i c.index-records-i.result c.loop-i-test.true c.index-records-i.is here),
      subst P its (counted_more c.args.records.now c.loop-i.i c.index-records-i.result c.loop-i.counts n c.loop-i-test.true c.index-records-i.is (omega arith) (counted g c) c.loop-i.invariant.1),
      length-set c.loop-i.counts c.from-node.result (n + 1) ∙ c.loop-i.invariant.2,
    )
