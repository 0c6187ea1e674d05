use Rattle.std.proofs.Common.{refl, subst}
use Rattle.map_body.specs.Body.{Body}
use Rattle.map_body.proofs.Callers.{one_body}
use Rattle.grant_machine.specs.declared.output.Output.TheVariants.{Map as MapOutput}
use Rattle.modem.specs.declared.types.Heard.TheVariants.{Taken}
use Rattle.map_body.specs.Heard.{IsExtent}
use Rattle.modem.proofs.Declined.{declined, none_left}
use Rattle.modem.proofs.Stands.{Hears-stands}
use Rattle.modem.proofs.modem.Modem.hear_body.Goals as goal

pub returns-in_default-clause-ok : goal.returns-in_default-clause-ok
returns-in_default-clause-ok c = λ bytes body.
    (λ map start stop reads. c.in_default.ensures.none start stop (subst (λ (m : Body). IsExtent c.args.near m start stop) (one_body bytes map c.args.map.now reads.body body) reads.extent), refl)

pub returns-in-Err-clause-ok : goal.returns-in-Err-clause-ok
returns-in-Err-clause-ok c = λ bytes body.
    let (extent, same) = c.in-Some.ensures.found in
    declined _ _ _ _ _ _ c.args.map.now c.in-Err.answer (record { body = body; extent = extent }) (rw same at c.in-Err.ensures.other)

pub returns-in-Err-clause-lets_go : goal.returns-in-Err-clause-lets_go
returns-in-Err-clause-lets_go c =
    let (extent, same) = c.in-Some.ensures.found in
    none_left _ _ c.args.map.now.head _ _ c.in-Err.answer (rw same at c.in-Err.ensures.other)

pub returns-in-Err-clause-stands : goal.returns-in-Err-clause-stands
returns-in-Err-clause-stands c = λ hearings ch start len bytes body was.
    Hears-stands c.args.self.now _ (MapOutput ch start len bytes) c.args.near c.in-Err.answer hearings (returns-in-Err-clause-ok c bytes body) was

pub returns-clause-ok : goal.returns-clause-ok
returns-clause-ok c = λ bytes body.
    let (extent, same) = c.in-Some.ensures.found in
    let (known, late, unchanged) = rw same at c.in-Ok.ensures.due in
    (c.args.map.now, c.in-Some.heard.start, c.in-Some.heard.stop, record { body = body; extent = extent }, c.in-Ok.channel, known.0, known.1, late, rw unchanged at c.in_ok-take.ensures.ok)

pub returns-in_err-take-clause-memory : goal.returns-in_err-take-clause-memory
returns-in_err-take-clause-memory c = λ _ bytes body.
    let (extent, same) = c.in-Some.ensures.found in
    let (known, late, unchanged) = rw same at c.in-Ok.ensures.due in
    (c.args.map.now, c.in-Some.heard.start, c.in-Some.heard.stop, record { body = body; extent = extent }, c.in-Ok.channel, known.0, known.1, late)

pub returns-clause-stands : goal.returns-clause-stands
returns-clause-stands c = λ hearings ch start len bytes body was.
    Hears-stands c.args.self.now _ (MapOutput ch start len bytes) c.args.near Taken hearings (returns-clause-ok c bytes body) was

pub returns-clause-lets_go : goal.returns-clause-lets_go
returns-clause-lets_go c = λ _. c.in_ok-take.ensures.lets_go
