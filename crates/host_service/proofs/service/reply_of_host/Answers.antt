use Rattle.std.proofs.Common.{refl, subst, sym}
use Rattle.host_service.specs.Replying.{DoesAsked}
use Rattle.host_service.specs.declared.asked.HostRequest.{HostRequest}
use Rattle.host_service.proofs.service.reply_of_host.Goals as goal

pub returns-in-State : goal.returns-in-State
returns-in-State g c =
    subst (λ (asked : HostRequest). DoesAsked c.args.host.now asked c.state_reply.result c.args.host.now) (sym c.in-State.is)
    (c.state.result, record { is = c.state.ensures }, c.state_reply.ensures, refl)

pub returns-in-Again : goal.returns-in-Again
returns-in-Again g c =
    subst (λ (asked : HostRequest). DoesAsked c.args.host.now asked c.again_reply.result c.args.host.now) (sym c.in-Again.is)
    (c.again.result, record { is = c.again.ensures }, c.again_reply.ensures, refl)
