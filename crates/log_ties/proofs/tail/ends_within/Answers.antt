use Rattle.std.proofs.Common.{arith, rules, ◌≡◌, ◌+◌, ◌≤◌, ◌<◌, ◌-◌, ℕ, suc, length, sym, ◌∙◌, ap, subst, subst₂, refl}
use Rattle.std.proofs.Common.{inl, inr, IsTrue, List}
use Rattle.std.proofs.lemmas.Bool.{cases_Bool, false≢true}
use Rattle.std.proofs.lemmas.Nat.{le-div}
use Rattle.sqlite_wal.specs.Recovery.{frame_at}
use Rattle.sqlite_wal.proofs.PartLemmas.{frames_len-suc}
use Rattle.log_ties.specs.Ties.{HasOwnSaltsAt}
use Rattle.log_ties.specs.Tails.{Reaches}
use Rattle.log_ties.proofs.EndLemmas.{taken_within, cut_behind_frames, cut_by_salts, uncut_behind_commit}
use Rattle.log_ties.proofs.EndLemmas.{uncut_behind_frame}
use Rattle.log_ties.proofs.ReadLemmas.{offset_is}
use Rattle.log_ties.proofs.tail.ends_within.Goals as goal

pub uncommitted_end-requires-clause-from : goal.uncommitted_end-requires-clause-from
uncommitted_end-requires-clause-from g c =
    let len : c.len-2.result ≡ 24 + c.args.shape.now.page_size = search rules in
    offset_is c.args.shape.now.page_size c.args.frames c.len-2.result len

pub returns-then-frames-shape-clause-cut : goal.returns-then-frames-shape-clause-cut
returns-then-frames-shape-clause-cut g c clean =
    let size = c.args.shape.now.page_size in
    let shape = c.requires.shape clean in
    let len : c.len.result ≡ 24 + size = search rules in
    let within = taken_within size (g.D.Disk.seen c.args.log.now) c.args.frames shape.long (c.requires.replays clean) in
    let fits = offset_is size c.args.frames c.len.result len in
    let few = le-div c.args.frames (c.args.shape.now.length - 32) c.len.result (omega arith) (omega (arith, within, fits, shape.len)) in
    absurd (omega (arith, few, c.if-frames-shape.true))

pub returns-then-shape-last-clause-cut : goal.returns-then-shape-last-clause-cut
returns-then-shape-last-clause-cut g c clean =
    let size = c.args.shape.now.page_size in
    let log = g.D.Disk.seen c.args.log.now in
    let before = c.uncommitted_end.ensures.same.clean clean in
    let shape = c.requires.shape before in
    let last = c.in_ok-last.last in
    let len : c.len-3.result ≡ 24 + size = search rules in
    let whole : frame_at size (suc last.frames) ≤ length log = omega (arith, frames_len-suc size last.frames, c.in_ok-last.ensures.place, c.if-shape-last.true, len, shape.len, c.in_ok-last.ensures.within) in
    (λ yes'. absurd (false≢true yes'), λ ends. absurd (uncut_behind_frame size log c.args.frames last.frames ends.0 shape.long shape.reads.signed (c.requires.replays before) (c.in_ok-last.ensures.reaches clean) whole ends.1))

pub returns-then-last-frames-clause-cut : goal.returns-then-last-frames-clause-cut
returns-then-last-frames-clause-cut g c clean =
    let size = c.args.shape.now.page_size in
    let log = g.D.Disk.seen c.args.log.now in
    let before = c.uncommitted_end.ensures.same.clean clean in
    let shape = c.requires.shape before in
    let last = c.in_ok-last.last in
    let len : c.len-3.result ≡ 24 + size = search rules in
    let short : length log < frame_at size (suc last.frames) = omega (arith, frames_len-suc size last.frames, c.in_ok-last.ensures.place, c.if-shape-last.false, len, shape.len, c.in_ok-last.ensures.within) in
    (λ _. (last.frames, cut_behind_frames size log c.args.frames last.frames (c.requires.replays before) (c.in_ok-last.ensures.reaches clean) c.if-last-frames.true short), λ _. refl)

pub returns-clause-cut : goal.returns-clause-cut
returns-clause-cut g c clean =
    let size = c.args.shape.now.page_size in
    let log = g.D.Disk.seen c.args.log.now in
    let ended = c.has_own_salts.ensures.same.clean clean in
    let before = c.uncommitted_end.ensures.same.clean ended in
    let shape = c.requires.shape before in
    let last = c.in_ok-last.last in
    let reached = c.in_ok-last.ensures.reaches ended in
    let same : c.args.frames ≡ last.frames = omega (arith, reached.from, c.if-last-frames.false) in
    let here : last.at ≡ frame_at size c.args.frames = c.in_ok-last.ensures.place ∙ ap (λ (k : ℕ). frame_at size k) (sym same) in
    let len : c.len-3.result ≡ 24 + size = search rules in
    let short : length log < frame_at size (suc c.args.frames) = omega (arith, frames_len-suc size c.args.frames, here, c.if-shape-last.false, len, shape.len, c.in_ok-last.ensures.within) in
    let told = subst₂ (λ (l : List ℕ) (at : ℕ). (IsTrue c.in_ok-has_own_salts.field-0 → HasOwnSaltsAt l at) × (HasOwnSaltsAt l at → IsTrue c.in_ok-has_own_salts.field-0)) c.uncommitted_end.ensures.same.seen here (c.in_ok-has_own_salts.ensures.own clean) in
    let at_once = subst (λ (k : ℕ). Reaches size log c.args.frames k) (sym same) reached in (
      λ yes'. (c.args.frames, cut_by_salts size log c.args.frames (c.requires.replays before) short (told.0 yes')),
      λ ends. elim (cases_Bool c.in_ok-has_own_salts.field-0) [
        | inl is ↦ is
        | inr no' ↦ absurd (uncut_behind_commit size log c.args.frames ends.0 shape.long shape.reads.signed (c.requires.replays before) at_once (λ own. false≢true (sym no' ∙ told.1 own)) ends.1)
      ],
    )
