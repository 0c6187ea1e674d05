use Rattle.std.proofs.Common.{◌<◌, min, arith}
use Rattle.modem.proofs.Sights.{Holds-begun}
use Rattle.modem.proofs.sight.renewed.Goals as goal

pub returns-then-at-last-clause-few : goal.returns-then-at-last-clause-few
returns-then-at-last-clause-few c = c.requires.holds.few c.args.«at» c.if-at-last.true

pub returns-clause-holds : goal.returns-clause-holds
returns-clause-holds c =
    rw c.nowhere.ensures (Holds-begun c.args.channels c.let_go.new.grants.items c.let_go.new.shared.items c.args.last.channel c.min.result (λ m before.
    let both : m < min c.few_until-own.result c.few_until-open.result = rw c.min.ensures at before in
    record {
      few_grants = (rw c.as_slice.ensures.value at c.few_until-own.ensures) m (omega (arith, both));
      few_open = (rw c.as_slice-2.ensures.value at c.few_until-open.ensures) m (omega (arith, both));
    }))
