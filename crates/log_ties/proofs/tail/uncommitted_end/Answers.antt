use Rattle.std.proofs.Common.{rules, arith, ◌≡◌, ◌+◌, ◌≤◌, ℕ, List, length, inl, inr, subst, add-one}
use Rattle.std.proofs.lemmas.Bool.{cases_eq}
use Rattle.sqlite_wal.specs.Format.{part, stored_sum}
use Rattle.sqlite_wal.proofs.PartLemmas.{frames_len-suc}
use Rattle.log_ties.specs.Tails.{IsQuiet}
use Rattle.log_ties.proofs.ReadLemmas.{at_some, few_frames, quiet_there, sum_there}
use Rattle.log_ties.proofs.tail.uncommitted_end.Goals as goal

pub loop-buf-init : goal.loop-buf-init
loop-buf-init g c = (c.requires.from, c.requires.within, omega arith, search rules, search rules, λ clean. (c.in_ok-before.ensures.sum clean, λ i past low. absurd (omega arith)))

pub overflow_add-frames : goal.overflow_add-frames
overflow_add-frames g c = omega (arith, few_frames c.args.shape.now.page_size c.loop-buf.frames c.loop-buf.at c.loop-buf.invariant.0, c.loop-buf.auto.at-fits)

pub loop-buf-preserved : goal.loop-buf-preserved
loop-buf-preserved g c =
    let size = c.args.shape.now.page_size in
    let log = g.D.Disk.seen c.args.log.now in
    let inv = c.loop-buf.invariant in
    let here = c.loop-buf.at in
    let n = length c.loop-buf.buf in
    let k = c.loop-buf.frames in
    let whole : n ≡ 24 + size = search rules in
    let len : length c.read_uncommitted.new.buf ≡ 24 + size = search rules in
    let test = c.loop-buf-test.true in (
      rw (add-one k) (omega (arith, inv.0, len, frames_len-suc size k)),
      omega (arith, test, inv.1, len, whole),
      omega (arith, inv.2),
      search rules,
      search rules,
      λ clean.
          let before = c.read_uncommitted.ensures.same.clean clean in
          let had = inv.5 before in
          let shape = c.requires.shape (inv.3.clean before) in
          let P : List ℕ → Type 0 = λ (l : List ℕ). IsQuiet c.args.shape.now.head c.loop-buf.before (part l here n) × (c.in-Some.sum ≡ stored_sum (part l here n) 16) in
          let found = subst P inv.3.seen (at_some _ _ c.in_ok-sum.field-0 _ c.in-Some.is (c.in_ok-sum.ensures.found clean)) in
          let within : here + n ≤ length log = omega (arith, test, inv.1, shape.len) in
          let quiet = quiet_there size log c.args.shape.now.head c.loop-buf.before here n k shape.same had.0 inv.0 whole within found.0 in (
            rw (add-one k) (sum_there size log c.args.shape.now.head c.loop-buf.before here n k shape.same had.0 inv.0 whole c.in-Some.sum found.1),
            λ i past low. elim (cases_eq i k) [ inl same ↦ rw same quiet | inr other ↦ had.1 i past (omega arith) ],
          ),
    )
