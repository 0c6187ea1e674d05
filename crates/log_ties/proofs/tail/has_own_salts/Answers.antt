use Rattle.std.proofs.Common.{rules, arith, ◌≡◌, ℕ, ◌+◌, ◌<◌, ◌≤◌, length}
use Rattle.log_ties.proofs.ReadLemmas.{own_salts, salts_own}
use Rattle.log_ties.proofs.tail.has_own_salts.Goals as goal
use Rattle.log_ties.proofs.tail.has_own_salts.Goals.{then-left-lt16, else-left-lt16}

pub returns-clause-own : goal.returns-clause-own
returns-clause-own g c clean =
    let log = g.D.Disk.seen c.args.log.now in
    let found = c.read_part.new.buf in
    let shape = c.requires.shape (c.read_part.ensures.same.clean clean) in
    let len : length found ≡ c.if-left-lt16.count = search rules in
    let holds = c.in_ok-read_part.ensures.read clean in
    let few : length found ≤ 8 = elim c.if-left-lt16.branch [ then-left-lt16 w ↦ omega (arith, w.count-is, len) | else-left-lt16 w ↦ omega (arith, w.count-is, len) ] in
    let all : (i : ℕ) → i < 8 → c.args.at + 8 + i < length log → i < length found = λ i low in_log. elim c.if-left-lt16.branch [
      | then-left-lt16 w ↦ omega (arith, w.count-is, len, shape.len)
      | else-left-lt16 w ↦ omega (arith, w.count-is, len)
    ] in (
      λ own. own_salts log c.args.shape.now.head found c.args.at holds shape.same all (c.are_own_salts.ensures.0 own),
      λ own. c.are_own_salts.ensures.1 (salts_own log c.args.shape.now.head found c.args.at holds shape.same few own),
    )
