use Rattle.std.proofs.Common.{arith, ◌+◌, ◌≤◌, ◌-◌, ℕ, refl, subst, Option, IfSome}
use Rattle.log_ties.specs.declared.tail.Shape.{Shape}
use Rattle.std.proofs.lemmas.Nat.{le-div}
use Rattle.std.proofs.Math.Nat.{div-mul-le_self}
use Rattle.std.proofs.Common.{mul-le-mul_right}
use Rattle.log_ties.proofs.CommitLemmas.{has_none}
use Rattle.log_ties.proofs.EndLemmas.{taken_within}
use Rattle.log_ties.proofs.ReadLemmas.{at_none, at_some, offset_is}
use Rattle.log_ties.proofs.commits.commits_under.Goals as goal

pub returns-in_default-clause-counted : goal.returns-in_default-clause-counted
returns-in_default-clause-counted g c clean =
    has_none (g.D.Disk.seen c.args.log.now) (at_none _ _ c.in_ok-shape.field-0 c.in_default.is (c.in_ok-shape.ensures.found clean))

pub returns-then-frames-shape-clause-counted : goal.returns-then-frames-shape-clause-counted
returns-then-frames-shape-clause-counted g c clean =
    let log = g.D.Disk.seen c.args.log.now in
    let f = at_some _ _ c.in_ok-shape.field-0 _ c.in-Some.is (c.in_ok-shape.ensures.found clean) in
    let size = c.in-Some.shape.page_size in
    let within = taken_within size log c.in-Some.frames f.shape.long f.taken in
    let fits = offset_is size c.in-Some.frames (24 + size) refl in
    let few = le-div c.in-Some.frames (c.in-Some.shape.length - 32) (24 + size) (omega arith) (omega (arith, within, fits, f.shape.len)) in
    absurd (omega (arith, few, c.if-frames-shape.true))

pub count_commits-requires-clause-within : goal.count_commits-requires-clause-within
count_commits-requires-clause-within g c =
    let size = c.in-Some.shape.page_size in
    let fits = offset_is size c.in-Some.frames (24 + size) refl in
    let low = div-mul-le_self (c.in-Some.shape.length - 32) (24 + size) in
    let few = mul-le-mul_right (24 + size) c.if-frames-shape.false in
    let R : Option (Shape × ℕ) → Type 0 = λ (o : Option (Shape × ℕ)). IfSome o (λ (r : Shape × ℕ). (r.0.page_size ≤ 65536) × (32 ≤ r.0.length)) in
    let long = (subst R c.in-Some.is c.in_ok-shape.ensures.size).1 in
    omega (arith, fits, low, few, long)
