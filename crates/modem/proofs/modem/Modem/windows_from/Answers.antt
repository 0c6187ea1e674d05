use Rattle.std.proofs.Common.{ℕ, List, length, subst, sym}
use Rattle.modem.specs.declared.kept.KeptInterval.{KeptInterval}
use Rattle.modem.specs.KeptIntervals.{ArePast}
use Rattle.modem.proofs.Windows.{same_intervals, still_past}
use Rattle.modem.proofs.modem.Modem.windows_from.Goals as goal

pub windows_at-requires-clause-past_grants : goal.windows_at-requires-clause-past_grants
windows_at-requires-clause-past_grants c =
    let fields = c.self.inside in
    let last = c.find-last.result in
    let holds = c.find-last.ensures.holds (length fields.channels.items) fields.grants.items fields.open_to_all.items (rw c.as_slice.ensures.value c.self.invariant.2) in
    rw (← c.self.view_is) (λ ks same.
    subst (λ (ch : ℕ). ArePast ch c.args.«at» last.past_grants ks) c.find-last.ensures.channel (still_past last.channel last.from c.args.«at» last.past_grants ks c.find-last.ensures.from (subst (λ (xs : List KeptInterval). ArePast last.channel last.from last.past_grants xs) (sym (same_intervals ks fields.grants.items same)) holds.past_grants)))

pub windows_at-requires-clause-past_open : goal.windows_at-requires-clause-past_open
windows_at-requires-clause-past_open c =
    let fields = c.self.inside in
    let last = c.find-last.result in
    let holds = c.find-last.ensures.holds (length fields.channels.items) fields.grants.items fields.open_to_all.items (rw c.as_slice.ensures.value c.self.invariant.2) in
    rw (← c.self.view_is) (λ ks same.
    subst (λ (ch : ℕ). ArePast ch c.args.«at» last.past_open ks) c.find-last.ensures.channel (still_past last.channel last.from c.args.«at» last.past_open ks c.find-last.ensures.from (subst (λ (xs : List KeptInterval). ArePast last.channel last.from last.past_open xs) (sym (same_intervals ks fields.open_to_all.items same)) holds.past_open)))
