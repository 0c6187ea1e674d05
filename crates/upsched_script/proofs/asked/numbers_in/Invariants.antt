use Rattle.std.proofs.Common.{List, ℕ}
use Rattle.std.proofs.lemmas.Iterator.{YieldsList}
use Rattle.upsched_script.proofs.Spelled.{Parted}
use Rattle.upsched_script.proofs.asked.numbers_in.Given as goal

abbrev pub invariant-loop-part : goal.invariant-loop-part
invariant-loop-part l = (left : List (List ℕ)) × YieldsList goal.iterator-loop-part.next_gives (λ part. part.now) l.part-iterator left × Parted l.fn.word l.numbers.items left
