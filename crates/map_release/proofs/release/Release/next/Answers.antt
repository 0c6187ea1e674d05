use Rattle.std.proofs.Common.{◌≡◌, ℕ, true, false, [], ◌∙◌, subst, sym}
use Rattle.map_release.specs.Released.{applied_outputs, released}
use Rattle.map_release.proofs.Steps.{none_behind}
use Rattle.map_release.proofs.release.Release.next.Goals as goal

pub returns-in_err-outputs-clause-nothing : goal.returns-in_err-outputs-clause-nothing
returns-in_err-outputs-clause-nothing c = λ none.
    let never : false ≡ true = c.in_err-outputs.ensures.nothing (subst (λ (k : ℕ). released c.args.now k (applied_outputs c.args.log.now) ≡ []) (sym c.self.view_is) none) in
    absurd (cc (never))

pub returns-in_err-outputs-clause-none_behind : goal.returns-in_err-outputs-clause-none_behind
returns-in_err-outputs-clause-none_behind c = λ le.
    let never : false ≡ true = c.in_err-outputs.ensures.nothing (subst (λ (k : ℕ). released c.args.now k (applied_outputs c.args.log.now) ≡ []) (sym c.self.view_is) (none_behind c.args.now c.args.self.now c.args.log.now le)) in
    absurd (cc (never))

pub returns-clause-none_behind : goal.returns-clause-none_behind
returns-clause-none_behind c = λ le.
    c.in_ok-outputs.ensures.released ∙ subst (λ (k : ℕ). released c.args.now k (applied_outputs c.args.log.now) ≡ []) (sym c.self.view_is) (none_behind c.args.now c.args.self.now c.args.log.now le)
