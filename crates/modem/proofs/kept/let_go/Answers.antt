use Rattle.std.proofs.Common.{arith}
use Rattle.modem.proofs.Order.{HasAt-cut}
use Rattle.modem.proofs.Old.{none_old}
use Rattle.modem.proofs.kept.let_go.Goals as goal

pub returns-clause-held : goal.returns-clause-held
returns-clause-held c = λ at_ch m sid iuc late.
    let ended = rw c.as_slice-2.ensures.value at c.ended-to.ensures in
    rw c.cut.ensures (HasAt-cut c.args.kept.now.items c.count_before-from.result c.ended-to.result c.args.ch c.args.clock at_ch m sid iuc ended.order ended.bound ended.ended late)

pub returns-clause-none_old : goal.returns-clause-none_old
returns-clause-none_old c = λ t soon.
    let ended = rw c.as_slice-2.ensures.value at c.ended-to.ensures in
    let low = rw c.as_slice.ensures.value at c.count_before-from.ensures in
    rw c.cut.ensures (none_old c.args.kept.now.items c.args.ch c.args.clock t c.count_before-from.result c.ended-to.result (omega arith) soon c.requires low ended.order ended.bound ended.next)
