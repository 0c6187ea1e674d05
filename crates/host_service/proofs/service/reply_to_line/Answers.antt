use Rattle.std.proofs.Common.{◌≡◌, ℕ, List, drop, inl, rules, sym, subst}
use Rattle.host_service.specs.Numbers.{IsNumbered}
use Rattle.host_service.proofs.service.reply_to_line.Goals as goal

pub returns-in-Some : goal.returns-in-Some
returns-in-Some g c =
    let same : c.deref.result.now ≡ c.args.line.items = search rules in
    let numbered : IsNumbered c.args.line.items c.in-Some.number (drop c.in-Some.place c.args.line.items) =
    subst (λ (l : List ℕ). IsNumbered l c.in-Some.number (drop c.in-Some.place l)) same c.in-Some.ensures.0 in
    inl (
      c.in-Some.number,
      c.rest_of.result.items,
      subst (λ (rest : List ℕ). IsNumbered c.args.line.items c.in-Some.number rest) (sym c.rest_of.ensures) numbered,
      c.reply_in_epoch.ensures,
    )
