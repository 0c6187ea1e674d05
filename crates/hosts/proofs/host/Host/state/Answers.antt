use Rattle.std.proofs.Common.{subst, sym}
use Rattle.std.specs.Prelude.{IfOk}
use Rattle.hosts.specs.States.{IsStateOf}
use Rattle.hosts.proofs.host.Host.state.Goals as goal

pub returns : goal.returns
returns g c v stands =
    let host = c.args.self.now in
    subst (λ m. IfOk c.state.result (λ bytes. IsStateOf m.0 m.1 host.places v.passed bytes.items)) (sym host.who) (c.state.ensures v.passed stands.states.own_state)
