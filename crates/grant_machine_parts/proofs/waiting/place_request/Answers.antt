use Rattle.std.proofs.Common.{◌≡◌, ℕ, Option, Some, IfSome, sym, ap, subst, ◌∙◌}
use Rattle.grant_machine_parts.specs.Placing.{Placement, Sent}
use Rattle.grant_machine_parts.proofs.Counted.{placed_left}
use Rattle.grant_machine_parts.proofs.waiting.place_request.Goals as goal

value_is : (o : Option ℕ) (r x : ℕ) (P : Type 0) → o ≡ Some r → IfSome o (λ y. (y ≡ x) × P) → r ≡ x
value_is o r x P e found = (subst (λ (v : Option ℕ). IfSome v (λ y. (y ≡ x) × P)) e found).0

pub returns-clause-left : goal.returns-clause-left
returns-clause-left c =
    let p : Placement = record { sid = c.unwrap.result; iuc = c.grant_iuc.result; offset = c.unwrap-2.result; size = c.args.ranked.now.request.n; cause = Sent c.args.ranked.now.request.sent } in
    let at : c.unwrap-2.result ≡ c.in-Some.x = value_is c.new-2.result c.unwrap-2.result c.in-Some.x _ c.unwrap-2.ensures c.new-2.ensures.found in
    placed_left c.args.filling.now.span c.place.new.self.span c.args.filling.now.placements c.place.new.self.placements p c.start.result c.saturating_sub-hi.result c.args.ranked.now.last c.args.free
    (sym c.first_fit.ensures.same ∙ c.in-Some.is ∙ ap (λ x. Some x) (sym at)) c.place.ensures.span c.in_ok-place.ensures.placed c.requires.counted
