use Rattle.std.proofs.Common.{◌≡◌, max, refl, sym, ap, ◌∙◌, arith}
use Rattle.acceptor.specs.Content.{greatest}
use Rattle.ballots.specs.declared.letters.Cast.{Cast}
use Rattle.acceptor_store.proofs.Words.{number_of, greatest_beside}
use Rattle.acceptor_store.proofs.Beside.{put_beside, raised_row, raised_vote}
use Rattle.acceptor_store.proofs.Words.{err_from_is_err_and}
use Rattle.acceptor_store.proofs.known.numbers_with.Goals as goal

pub returns-in-Tried-clause-value : goal.returns-in-Tried-clause-value
returns-in-Tried-clause-value g c clean d was known = rw c.in-Tried.is (record { tries = refl; promises = known.promises })

pub returns-then-not-is_below-clause-value : goal.returns-then-not-is_below-clause-value
returns-then-not-is_below-clause-value g c clean d was known =
    rw c.in-Promised.is (record { tries = known.tries; promises = raised_row c.in-Promised.ballot d (omega (arith, c.if-not-is_below.ensures refl, known.promises)) })

pub returns-in_ok-_tried-in-Promised-clause-value : goal.returns-in_ok-_tried-in-Promised-clause-value
returns-in_ok-_tried-in-Promised-clause-value g c clean d was known =
    let promised = c.greatest_of-numbers.ensures ∙ ap (greatest c.in-Promised.ballot) (c.rows.ensures ∙ (c.in_ok-_tried-in-Promised.ensures.value clean d was).2) in
    rw c.in-Promised.is (record { tries = known.tries; promises = promised })

pub returns-then-not-is_below-2-clause-value : goal.returns-then-not-is_below-2-clause-value
returns-then-not-is_below-2-clause-value g c clean d was known =
    let cast : Cast = record { ballot = c.in-Vote.ballot; value = c.in-Vote.field-2.now } in
    rw c.in-Vote.is (record { tries = known.tries; promises = raised_vote c.in-Vote.place cast d (omega (arith, c.if-not-is_below-2.ensures refl, known.promises)) })

pub returns-in_ok-_tried-in-Vote-clause-value : goal.returns-in_ok-_tried-in-Vote-clause-value
returns-in_ok-_tried-in-Vote-clause-value g c clean d was known =
    let cast : Cast = record { ballot = c.in-Vote.ballot; value = c.in-Vote.field-2.now } in
    let it = c.in_ok-_tried-in-Vote.ensures.value clean d was in
    let most : number_of c.higher.result ≡ max d.row cast.ballot = omega (arith, c.higher.ensures, it.1) in
    let promised = c.greatest_without-numbers.ensures ∙ (ap (λ p. greatest_beside p (number_of c.higher.result) c.rows-in-Vote.result.now) c.number.ensures.same ∙ (ap (λ m. greatest_beside c.in-Vote.place m c.rows-in-Vote.result.now) most
    ∙ (ap (greatest_beside c.in-Vote.place (max d.row cast.ballot)) (c.rows-in-Vote.ensures ∙ it.2) ∙ sym (put_beside c.in-Vote.place 1 d.row cast d.votes was.tables.sound.0)))) in
    rw c.in-Vote.is (record { tries = known.tries; promises = promised })

pub returns-in-Learned-clause-value : goal.returns-in-Learned-clause-value
returns-in-Learned-clause-value g c clean d was known = rw c.in-Learned.is (record { tries = known.tries; promises = known.promises })

pub returns-in_err-_tried-in-Promised-clause-stays : goal.returns-in_err-_tried-in-Promised-clause-stays
returns-in_err-_tried-in-Promised-clause-stays g c clean = let p = err_from_is_err_and c.from_residual.result c.from_residual.ensures.1 in rw (p.1, p.2) (c.in_err-_tried-in-Promised.ensures.stays clean)

pub returns-in_err-_tried-in-Vote-clause-stays : goal.returns-in_err-_tried-in-Vote-clause-stays
returns-in_err-_tried-in-Vote-clause-stays g c clean =
    let p = err_from_is_err_and c.from_residual-in_err-_tried-in-Vote.result c.from_residual-in_err-_tried-in-Vote.ensures.1 in
    rw (p.1, p.2) (c.in_err-_tried-in-Vote.ensures.stays clean)
