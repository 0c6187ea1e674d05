use Rattle.std.proofs.Common.{sym, ap, arith, length, List, ℕ}
use Rattle.upsched_c_node.proofs.Lengths.{of_accept, of_higher, of_known, of_prepare, of_promise, of_voted}
use Rattle.upsched_c_node.proofs.letter_length.fields_length.Goals as goal

pub returns-in-Prepare-clause-length : goal.returns-in-Prepare-clause-length
returns-in-Prepare-clause-length c = sym (of_prepare c.args.note.now _ _ c.in-Prepare.is)

pub returns-in-Promise-clause-length : goal.returns-in-Promise-clause-length
returns-in-Promise-clause-length c = sym (of_promise c.args.note.now _ _ _ c.in-Promise.is)

pub returns-in-Accept-clause-length : goal.returns-in-Accept-clause-length
returns-in-Accept-clause-length c =
    let size = ap (λ (v : List ℕ). length v) c.as_slice.ensures in omega (arith, size, of_accept c.args.note.now _ _ _ c.in-Accept.is)

pub returns-in-Voted-clause-length : goal.returns-in-Voted-clause-length
returns-in-Voted-clause-length c =
    let size = ap (λ (v : List ℕ). length v) c.as_slice-in-Voted.ensures in omega (arith, size, of_voted c.args.note.now _ _ _ c.in-Voted.is)

pub returns-in-Higher-clause-length : goal.returns-in-Higher-clause-length
returns-in-Higher-clause-length c = sym (of_higher c.args.note.now _ c.in-Higher.is)

pub returns-in-Known-clause-length : goal.returns-in-Known-clause-length
returns-in-Known-clause-length c =
    let size = ap (λ (v : List ℕ). length v) c.as_slice-in-Known.ensures in omega (arith, size, of_known c.args.note.now _ _ c.in-Known.is)
