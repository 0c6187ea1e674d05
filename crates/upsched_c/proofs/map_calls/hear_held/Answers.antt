use Rattle.std.proofs.Common.{ℕ, refl, subst}
use Rattle.map_body.specs.Body.{Body}
use Rattle.map_body.proofs.Callers.{one_body}
use Rattle.modem.specs.Hears.{HearsMap, IsDue}
use Rattle.modem.specs.LetsGo.{HasNoOld}
use Rattle.upsched_c.proofs.map_calls.hear_held.Goals as goal

pub returns-in_default-hear_body : goal.returns-in_default-hear_body
returns-in_default-hear_body c =
    let v = c.in-Modem.modem in
    rw (c.in-Modem.is, c.in-Map.is) (λ bytes body. (c.in-Some.ensures.found.1, subst (λ (n : ℕ). IsDue v bytes n) c.in-Some.ensures.found.0 (c.in_default-hear_body.ensures.memory refl bytes body), c.in_default-hear_body.ensures.err, refl))

pub returns : goal.returns
returns c =
    let v = c.in-Modem.modem in
    let told = c.in-Map.body in
    let answer = c.in-Ok.answer in
    let after = c.hear_body.new.self in
    rw (c.in-Modem.is, c.in-Map.is) (λ bytes body. (
      answer,
      c.in-Some.ensures.found.1,
      subst (λ (n : ℕ). HearsMap v bytes n answer after) c.in-Some.ensures.found.0 (c.in-Ok.ensures.ok bytes body),
      (λ map other cause. subst (λ (m : Body). HasNoOld after m.head.channel) (one_body bytes told map body other) (c.in-Ok.ensures.lets_go cause)),
      c.heard_number.ensures,
    ))
