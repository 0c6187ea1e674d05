use Rattle.std.proofs.Common.{◌≡◌, ap, subst, sym, ◌∙◌, arith, rules}
use Rattle.ballots.specs.Rows.{rows_from}
use Rattle.command_log.specs.Values.{Rows}
use Rattle.command_log.specs.View.{AreRows}
use Rattle.node.proofs.Freshness.{all_rows}
use Rattle.node.proofs.Reading.{are_rows}
use Rattle.node.proofs.knowledge.Knowledge.read.Goals as goal

pub returns-clause-value : goal.returns-clause-value
returns-clause-value g c honest content holds =
    let first : c.unwrap-first.result ≡ 1 = search rules in
    let sound = c.in_ok-rows.ensures.sound honest content holds in
    let rows : c.in_ok-rows.rows.items ≡ content.learned = c.in_ok-rows.ensures.value honest content holds ∙ ap (rows_from content.learned) first ∙ all_rows 1 content.learned (omega arith) sound.1 in
    let are : AreRows 1 c.in_ok-rows.rows.items = subst (λ (r : Rows). AreRows 1 r) (sym rows) (are_rows 1 content.learned sound.1) in
    let learned = c.in_ok-learner.ensures.same are ∙ rows in
    (λ i. record { tally = record { counted = c.in_ok-learner.ensures.counted i; learned = learned i }; cursor = c.new-3.ensures i })
