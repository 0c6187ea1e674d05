use Rattle.std.proofs.Common.{◌≡◌, ◌==◌, true, List, refl, ap}
use Rattle.std.proofs.lemmas.Bool.{eq-eqb}
use Rattle.modem.specs.declared.known.OwnLease.{OwnLease}
use Rattle.modem.specs.contracts.modem.Modem.{the_view}
use Rattle.modem.specs.State.{clock_of, recent, with_lease}
use Rattle.modem.proofs.Parts.{where_true}
use Rattle.modem.proofs.modem.Modem.hear_assigned.Goals as goal

pub returns-clause-ok : goal.returns-clause-ok
returns-clause-ok c =
    let v = the_view c.self.inside in
    let lease = c.args.lease in
    let mine : (c.args.modem == v.id) ≡ true = eq-eqb _ _ c.if-modem-self.false in
    let kept : c.add.new.leases.items ≡ recent lease.channel (clock_of v.channels lease.channel) (with_lease v.leases lease) = rw (c.clock_of-clock.ensures, c.as_slice.ensures.value) at c.in_ok-add.ensures.ok in
    rw (← c.self.view_is) (where_true _ _ (c.args.modem == v.id) mine (refl, ap (λ (ls : List OwnLease). record v { leases = ls }) kept))
