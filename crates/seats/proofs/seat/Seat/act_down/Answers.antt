use Rattle.seats.proofs.Acting.{refuses, restarts}
use Rattle.seats.proofs.seat.Seat.act_down.Goals as goal

pub returns-in-Restart : goal.returns-in-Restart
returns-in-Restart g c = rw (c.in-Restart.is, c.of_restart.ensures) (
    let call = c.restart-given.ensures in
    restarts c.args.self.now _ c.restart-given.result c.requires c.is_ok-self.ensures.value call.honesty call.trust call.err call.kept call.tells call.done)

pub returns-in_default : goal.returns-in_default
returns-in_default g c = refuses c.args.self.now c.args.asked c.in_default.not-Restart c.requires
