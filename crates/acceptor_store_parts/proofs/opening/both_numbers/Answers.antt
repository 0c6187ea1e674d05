use Rattle.std.proofs.Common.{◌≡◌, ℕ, IfNone, sym, subst}
use Rattle.acceptor_store_parts.specs.Stored.{IsNumber, numbers_shown}
use Rattle.acceptor_store_parts.proofs.opening.both_numbers.Goals as goal

pub returns-in-First-clause-none : goal.returns-in-First-clause-none
returns-in-First-clause-none c =
    subst (λ v. IfNone c.only_two.result ((tried row : ℕ) → IsNumber tried → IsNumber row → c.args.rows.now ≡ numbers_shown v tried row → ⊥)) (sym c.in-First.is) c.only_two.ensures.none

pub returns-in-Second-clause-none : goal.returns-in-Second-clause-none
returns-in-Second-clause-none c =
    subst (λ v. IfNone c.two_before.result ((tried row : ℕ) → IsNumber tried → IsNumber row → c.args.rows.now ≡ numbers_shown v tried row → ⊥)) (sym c.in-Second.is) c.two_before.ensures.none

pub returns-in-Third-clause-none : goal.returns-in-Third-clause-none
returns-in-Third-clause-none c =
    subst (λ v. IfNone c.two_before-in-Third.result ((tried row : ℕ) → IsNumber tried → IsNumber row → c.args.rows.now ≡ numbers_shown v tried row → ⊥)) (sym c.in-Third.is) c.two_before-in-Third.ensures.none

pub returns-in-Fourth-clause-none : goal.returns-in-Fourth-clause-none
returns-in-Fourth-clause-none c =
    subst (λ v. IfNone c.two_before-in-Fourth.result ((tried row : ℕ) → IsNumber tried → IsNumber row → c.args.rows.now ≡ numbers_shown v tried row → ⊥)) (sym c.in-Fourth.is) c.two_before-in-Fourth.ensures.none
