use Rattle.std.proofs.Common.{sym, ◌∙◌}
use Rattle.modem.specs.KeptIntervals.{kept_interval}
use Rattle.modem.proofs.AtKept.{counts_skipped, counts_alone, counts_first, counts_later}
use Rattle.modem.proofs.kept.first_at.Goals as goal

pub returns-then-not-covers : goal.returns-then-not-covers
returns-then-not-covers c kept h =
    counts_skipped kept (kept_interval c.args.interval.now) c.args.ch c.args.«at» c.args.first (sym c.covers.ensures ∙ c.if-not-covers.true) h

pub returns-in_default : goal.returns-in_default
returns-in_default c kept h =
    counts_alone kept (kept_interval c.args.interval.now) c.args.ch c.args.«at» (sym c.covers.ensures ∙ c.if-not-covers.false) (rw c.in_default.is at h)

pub returns-then-comes_first : goal.returns-then-comes_first
returns-then-comes_first c kept h =
    let first = rw c.get.ensures.same at (c.comes_first.ensures.first c.if-comes_first.true) in
    counts_first kept (kept_interval c.args.interval.now) c.args.ch c.args.«at» c.in-Some.best (sym c.covers.ensures ∙ c.if-not-covers.false) first (rw c.in-Some.is at h)

pub returns-else-comes_first : goal.returns-else-comes_first
returns-else-comes_first c kept h =
    let later = rw c.get.ensures.same at (c.comes_first.ensures.later c.if-comes_first.false) in
    counts_later kept (kept_interval c.args.interval.now) c.args.ch c.args.«at» c.in-Some.best later (rw c.in-Some.is at h)
