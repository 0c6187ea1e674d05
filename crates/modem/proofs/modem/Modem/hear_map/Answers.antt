use Rattle.std.proofs.Common.{◌≡◌, subst}
use Rattle.grant_machine.specs.declared.output.Output.TheVariants.{Map as MapOutput}
use Rattle.map_body.specs.Body.{Body}
use Rattle.map_body.proofs.Callers.{one_body}
use Rattle.modem.specs.declared.types.Heard.TheVariants.{Taken}
use Rattle.modem.specs.LetsGo.{HasNoOld}
use Rattle.modem.proofs.Declined.{declined, none_left}
use Rattle.modem.proofs.Stands.{Hears-stands}
use Rattle.modem.proofs.modem.Modem.hear_map.Goals as goal

pub returns-in-Err-clause-ok : goal.returns-in-Err-clause-ok
returns-in-Err-clause-ok c =
    let (told, reads, same) = c.in-Some.ensures.found in
    declined _ _ _ _ _ _ told c.in-Err.answer reads (rw (← same) at c.in-Err.ensures.other)

pub returns-in-Err-clause-lets_go : goal.returns-in-Err-clause-lets_go
returns-in-Err-clause-lets_go c = λ map body.
    let (told, reads, same) = c.in-Some.ensures.found in
    rw (← one_body c.args.bytes.now told map reads.body body) (none_left _ _ told.head _ _ c.in-Err.answer (rw (← same) at c.in-Err.ensures.other))

pub returns-in-Err-clause-stands : goal.returns-in-Err-clause-stands
returns-in-Err-clause-stands c = λ hearings ch start len was.
    Hears-stands c.args.self.now _ (MapOutput ch start len c.args.bytes.now) c.args.near c.in-Err.answer hearings (returns-in-Err-clause-ok c) was

pub returns-clause-ok : goal.returns-clause-ok
returns-clause-ok c =
    let (told, reads, same) = c.in-Some.ensures.found in
    let one : told ≡ c.in-Ok-decode.map = one_body c.args.bytes.now told c.in-Ok-decode.map reads.body c.in-Ok-decode.ensures.read in
    let (known, late, unchanged) = rw (← same, one) at c.in-Ok.ensures.due in
    (c.in-Ok-decode.map, c.in-Some.heard.start, c.in-Some.heard.stop, rw one at reads, c.in-Ok.channel, known.0, known.1, late, rw unchanged at c.in_ok-take.ensures.ok)

pub returns-in_err-take-clause-memory : goal.returns-in_err-take-clause-memory
returns-in_err-take-clause-memory c = λ _.
    let (told, reads, same) = c.in-Some.ensures.found in
    let (known, late, unchanged) = rw (← same) at c.in-Ok.ensures.due in
    (told, c.in-Some.heard.start, c.in-Some.heard.stop, reads, c.in-Ok.channel, known.0, known.1, late)

pub returns-clause-stands : goal.returns-clause-stands
returns-clause-stands c = λ hearings ch start len was.
    Hears-stands c.args.self.now _ (MapOutput ch start len c.args.bytes.now) c.args.near Taken hearings (returns-clause-ok c) was

pub returns-clause-lets_go : goal.returns-clause-lets_go
returns-clause-lets_go c = λ map body _.
    subst (λ (m : Body). HasNoOld c.take.new.self m.head.channel) (one_body c.args.bytes.now c.in-Ok-decode.map map c.in-Ok-decode.ensures.read body) c.in_ok-take.ensures.lets_go
