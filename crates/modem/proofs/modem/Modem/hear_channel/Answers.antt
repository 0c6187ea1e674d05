use Rattle.std.proofs.Common.{length}
use Rattle.modem.proofs.modem.Modem.hear_channel.Goals as goal

pub invariant_of-self-in_err-add-in-None-2 : goal.invariant_of-self-in_err-add-in-None-2
invariant_of-self-in_err-add-in-None-2 c =
    let fields = c.self.inside in (
      c.self.invariant.0,
      c.self.invariant.1,
      c.in_ok-add-in-None.ensures.ok (length fields.channels.items) fields.grants.items fields.open_to_all.items,
      rw c.in_err-add-in-None-2.ensures.err c.self.invariant.3,
    )

pub invariant_of-self-in_err-push-in-None : goal.invariant_of-self-in_err-push-in-None
invariant_of-self-in_err-push-in-None c =
    let fields = c.self.inside in (
      c.self.invariant.0,
      c.self.invariant.1,
      c.in_ok-add-in-None.ensures.ok (length c.push.new.self.items) fields.grants.items fields.open_to_all.items,
      c.in_ok-add-in-None-2.ensures.ok fields.leases.items fields.wants.items,
    )

pub invariant_of-self-in-None : goal.invariant_of-self-in-None
invariant_of-self-in-None c =
    let fields = c.self.inside in (
      c.self.invariant.0,
      c.self.invariant.1,
      c.in_ok-add-in-None.ensures.ok (length c.push.new.self.items) fields.grants.items fields.open_to_all.items,
      c.in_ok-add-in-None-2.ensures.ok fields.leases.items fields.wants.items,
    )
