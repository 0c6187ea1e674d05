use Rattle.std.proofs.Common.{◌≡◌, pos, sym, ap, ◌∙◌, rules, SFits, w64}
use Rattle.acceptor_store_parts.proofs.Words.{to_z-of_z, Row, column, Int}
use Rattle.acceptor_store_parts.proofs.opening.number_at.Goals as goal

pub returns-in-Err-clause-none : goal.returns-in-Err-clause-none
returns-in-Err-clause-none c n is same =
    let shown : Int c.in_ok-number.number ≡ Int (pos n) = sym c.in_ok-number.ensures.some ∙ ap (λ (r : Row). column r 1) same in
    let number : c.in_ok-number.number ≡ pos n = cc in
    let fits : SFits w64 c.in_ok-number.number = search rules in
    c.in-Err.ensures.none n is (rw to_z-of_z number)
