use Rattle.std.proofs.Common.{◌≡◌, false, is_ok, sym, ◌∙◌}
use Rattle.seats.proofs.Settling.{all_lost, nothing_lost}
use Rattle.seats.proofs.seat.Seat.settle.Goals as goal

pub returns-then-not-gives-clause-settles : goal.returns-then-not-gives-clause-settles
returns-then-not-gives-clause-settles g c =
    let is : is_ok c.args.kept ≡ false = sym c.is_ok.ensures.value ∙ c.if-is_ok.false in
    rw is (nothing_lost c.args.self.now c.args.answer (sym c.gives.ensures ∙ c.if-not-gives.true))

pub returns-clause-settles : goal.returns-clause-settles
returns-clause-settles g c =
    let is : is_ok c.args.kept ≡ false = sym c.is_ok.ensures.value ∙ c.if-is_ok.false in
    rw is (all_lost c.args.self.now c.args.answer _ (sym c.gives.ensures ∙ c.if-not-gives.false))
