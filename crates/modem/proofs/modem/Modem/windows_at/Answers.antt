use Rattle.std.proofs.Common.{List, refl, subst, sym}
use Rattle.modem.specs.declared.kept.KeptInterval.{KeptInterval}
use Rattle.modem.specs.KeptIntervals.{IsWindow}
use Rattle.modem.proofs.Windows.{same_intervals}
use Rattle.modem.proofs.modem.Modem.windows_at.Goals as goal

pub window_at-own-requires-clause-past : goal.window_at-own-requires-clause-past
window_at-own-requires-clause-past c =
    let fields = c.self.inside in
    rw c.as_slice.ensures.value ((rw (← c.self.view_is) at c.requires.past_grants) fields.grants.items refl)

pub window_at-open-requires-clause-past : goal.window_at-open-requires-clause-past
window_at-open-requires-clause-past c =
    let fields = c.self.inside in
    rw c.as_slice-2.ensures.value ((rw (← c.self.view_is) at c.requires.past_open) fields.open_to_all.items refl)

pub returns : goal.returns
returns c =
    let fields = c.self.inside in
    rw (← c.self.view_is) (record {
      own = λ ks same. subst (λ (xs : List KeptInterval). IsWindow c.args.ch c.args.«at» xs c.window_at-own.result) (sym (same_intervals ks fields.grants.items same)) (rw c.as_slice.ensures.value at c.window_at-own.ensures);
      «open» = λ ks same. subst (λ (xs : List KeptInterval). IsWindow c.args.ch c.args.«at» xs c.window_at-open.result) (sym (same_intervals ks fields.open_to_all.items same)) (rw c.as_slice-2.ensures.value at c.window_at-open.ensures);
    })
