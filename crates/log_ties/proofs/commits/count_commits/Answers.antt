use Rattle.std.proofs.Common.{rules, arith, ◌≡◌, ◌+◌, ◌*◌, ◌≤◌, ℕ, List, length, refl, sym, ◌∙◌, ap, subst, add-one}
use Rattle.sqlite_wal.specs.Format.{be32}
use Rattle.log_ties.specs.Ties.{commits_to}
use Rattle.log_ties.proofs.CommitLemmas.{frame_within, counts_one, counts_none}
use Rattle.log_ties.proofs.commits.count_commits.Goals as goal
use Rattle.log_ties.proofs.commits.count_commits.Goals.{then-branch-ne0, else-branch-ne0}

pub loop-i-init : goal.loop-i-init
loop-i-init g c = (omega arith, search rules, search rules, λ clean. refl)

pub overflow_mul-i : goal.overflow_mul-i
overflow_mul-i g c = omega (arith, frame_within c.args.shape.now.page_size c.args.frames c.loop-i.i (24 + c.args.shape.now.page_size) refl c.loop-i-test.true, c.requires.within)

pub overflow_add-i : goal.overflow_add-i
overflow_add-i g c = omega (arith, frame_within c.args.shape.now.page_size c.args.frames c.loop-i.i (24 + c.args.shape.now.page_size) refl c.loop-i-test.true, c.requires.within)

pub overflow_add-i-in-loop-i : goal.overflow_add-i-in-loop-i
overflow_add-i-in-loop-i g c = omega (arith, frame_within c.args.shape.now.page_size c.args.frames c.loop-i.i (24 + c.args.shape.now.page_size) refl c.loop-i-test.true, c.requires.within)

pub read_be32-requires-clause-within : goal.read_be32-requires-clause-within
read_be32-requires-clause-within g c clean =
    let size = c.args.shape.now.page_size in
    let reads = c.loop-i.invariant.1 in
    let shape = c.requires.shape (reads.clean clean) in
    let here = frame_within size c.args.frames c.loop-i.i (24 + size) refl c.loop-i-test.true in
    let fits : 32 + c.loop-i.i * (24 + size) + 4 + 4 ≤ length (g.D.Disk.seen c.args.log.now) = omega (arith, here, c.requires.within, shape.len) in
    subst (λ (l : List ℕ). 32 + c.loop-i.i * (24 + size) + 4 + 4 ≤ length l) (sym reads.seen) fits

pub loop-i-preserved : goal.loop-i-preserved
loop-i-preserved g c =
    let size = c.args.shape.now.page_size in
    let log = g.D.Disk.seen c.args.log.now in
    let inv = c.loop-i.invariant in
    let i = c.loop-i.i in
    let at = 32 + i * (24 + size) + 4 in
    let low : c.if-branch-ne0.count ≤ i + 1 = elim c.if-branch-ne0.branch [ then-branch-ne0 w ↦ omega (arith, w.count-is, inv.0) | else-branch-ne0 w ↦ omega (arith, w.count-is, inv.0) ] in (
      low,
      search rules,
      search rules,
      λ clean.
          let before = c.read_be32.ensures.same.clean clean in
          let was = inv.3 before in
          let number : c.in_ok-read_be32.field-0 ≡ be32 log at = c.in_ok-read_be32.ensures.number clean ∙ ap (λ (l : List ℕ). be32 l at) inv.1.seen in
          rw (add-one i) (elim c.if-branch-ne0.branch [
            | then-branch-ne0 w ↦ w.count-is ∙ counts_one size log i (24 + size) refl c.loop-i.count was (λ none. w.if-branch-ne0.true (number ∙ none))
            | else-branch-ne0 w ↦ w.count-is ∙ counts_none size log i (24 + size) refl c.loop-i.count was (sym number ∙ w.if-branch-ne0.false)
          ]),
    )

pub returns-clause-count : goal.returns-clause-count
returns-clause-count g c clean =
    let here : c.loop-i.i ≡ c.args.frames = omega arith in
    c.loop-i.invariant.3 clean ∙ ap (λ (k : ℕ). commits_to c.args.shape.now.page_size (g.D.Disk.seen c.args.log.now) k) here
