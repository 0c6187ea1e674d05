use Rattle.std.proofs.Common.{◌≡◌, false, sym, subst, ◌∙◌}
use Rattle.std.specs.List.{list_any}
use Rattle.std.proofs.lemmas.List.{take_all}
use Rattle.modem.specs.declared.kept.KeptInterval.{KeptInterval}
use Rattle.modem.specs.KeptIntervals.{kept_interval, is_at}
use Rattle.modem.proofs.Parts.{no_true}
use Rattle.modem.proofs.AtKept.{HasAt-kept}
use Rattle.modem.proofs.kept.covering.Goals as goal

pub returns-clause-none : goal.returns-clause-none
returns-clause-none c = λ h.
    let near = c.around-near.result.now in
    let none : list_any (λ (k : KeptInterval). is_at c.args.ch c.args.«at» c.args.sid c.args.iuc (kept_interval k)) near ≡ false = subst (λ ks. list_any (λ (k : KeptInterval). is_at c.args.ch c.args.«at» c.args.sid c.args.iuc (kept_interval k)) ks ≡ false) (take_all c.loop-interval.interval-index near c.loop-interval-test.false) c.loop-interval.invariant in
    no_true (sym none ∙ (HasAt-kept near c.args.ch c.args.«at» c.args.sid c.args.iuc).1 ((c.around-near.ensures.same c.args.sid c.args.iuc).1 h))
