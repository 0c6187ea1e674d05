use Rattle.std.proofs.Common.{◌≡◌, ◌∙◌, List, length, ap, subst, sym, arith, get_or}
use Rattle.map_release.specs.declared.numbered.Numbered.{Numbered}
use Rattle.node_worker.specs.Runs.{IsOutputAt}
use Rattle.node_worker.specs.declared.entry.Done.{Done}
use Rattle.node_worker.proofs.Listening.{output_of, outputs_more}
use Rattle.node_worker.proofs.outputs.output_at.Goals as goal

pub returns-then-left-outputs-clause-found : goal.returns-then-left-outputs-clause-found
returns-then-left-outputs-clause-found c =
    let own : c.outputs-outputs.result.now ≡ c.index-records-j.result.entry.outputs = c.outputs-outputs.ensures ∙ ap (λ (d : Done). d.entry.outputs) (sym c.index-records-j.is) in
    let P : List Numbered → Type 0 = λ xs. c.index-outputs-left.result ≡ get_or xs c.loop-j.left c.index-outputs-left.result in
    let Q : Numbered → Type 0 = λ n. IsOutputAt c.args.records.now c.args.i n.output in
    subst Q c.index-outputs-left.is
    (output_of c.args.records.now c.loop-j.j c.loop-j.left c.args.i c.index-records-j.result c.index-outputs-left.result
    c.loop-j-test.true c.index-records-j.is c.loop-j.invariant.0 (omega (arith, c.if-left-outputs.true, ap length own)) (subst P own c.index-outputs-left.is))

pub loop-j-preserved : goal.loop-j-preserved
loop-j-preserved c =
    let own : c.outputs-outputs.result.now ≡ c.index-records-j.result.entry.outputs = c.outputs-outputs.ensures ∙ ap (λ (d : Done). d.entry.outputs) (sym c.index-records-j.is) in
    let more = outputs_more c.args.records.now c.loop-j.j c.index-records-j.result c.loop-j-test.true c.index-records-j.is in
    (omega (arith, more, c.loop-j.invariant.0, c.if-left-outputs.false, ap length own), c.loop-j.invariant.1)
