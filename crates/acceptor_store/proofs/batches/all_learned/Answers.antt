use Rattle.std.proofs.Common.{◌≡◌, ap, ◌∙◌, arith}
use Rattle.acceptor_store.proofs.Words.{IfOk-weaker, all_rows, rows_from}
use Rattle.acceptor_store.proofs.batches.all_learned.Goals as goal

pub returns-clause-value : goal.returns-clause-value
returns-clause-value g c clean =
    let one : c.in-Some.first ≡ 1 = (let e = c.in-Some.ensures.some in cc) in
    IfOk-weaker c.find.result _ _ (λ rows found x was. found x was ∙ (ap (rows_from x.learned) one ∙ all_rows 1 1 x.learned (omega arith) was.1.tables.sound.1)) (c.find.ensures.value clean)
