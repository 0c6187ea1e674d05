use Rattle.std.proofs.Common.{◌≡◌, ◌∙◌, List, ℕ, ◌+◌, ◌++◌, take, get_or, sym, ap, arith}
use Rattle.upsched_audit.specs.Audits.{counts_line, counts_lines}
use Rattle.upsched_audit.proofs.Counting.{appends_on, counts_more}
use Rattle.upsched_audit.proofs.verdict_line.write_counts.Goals as goal

pub loop-node-preserved : goal.loop-node-preserved
loop-node-preserved g c =
    let journals = c.args.journals.now in
    let read : get_or journals c.loop-node.node c.index-journals-node.result ≡ c.as_slice.result.now = sym (c.as_slice.ensures ∙ c.index-journals-node.is) in
    let here : 0 + c.loop-node.node ≡ c.loop-node.node = omega arith in
    appends_on _ _ _ (counts_lines 0 (take c.loop-node.node journals)) (counts_line c.loop-node.node c.as_slice.result.now) _ c.loop-node.invariant c.in_ok-write_counts_line.ensures
    (counts_more 0 journals c.loop-node.node c.index-journals-node.result c.loop-node-test.true
    ∙ ap (λ k. counts_lines 0 (take c.loop-node.node journals) ++ counts_line k (get_or journals c.loop-node.node c.index-journals-node.result)) here
    ∙ ap (λ (journal : List ℕ). counts_lines 0 (take c.loop-node.node journals) ++ counts_line c.loop-node.node journal) read)
