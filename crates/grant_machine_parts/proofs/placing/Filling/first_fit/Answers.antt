use Rattle.std.proofs.Common.{◌≡◌, ◌≤◌, false, cond, not, nat_lt, Option, ℕ, length, IfSome, Some, None, sym, ap, subst}
use Rattle.std.proofs.Common.{◌∙◌}
use Rattle.std.specs.List.{find, range_with_len}
use Rattle.std.proofs.lemmas.Bool.{not-false}
use Rattle.flow_state.specs.Limits.{most_minislots}
use Rattle.grant_machine_parts.specs.Placing.{most_placements, is_free, fits_at, first_fit}
use Rattle.grant_machine_parts.specs.Filling.{PartMap}
use Rattle.grant_machine_parts.specs.Gaps.{AreGaps}
use Rattle.grant_machine_parts.proofs.Carved.{fit_ends}
use Rattle.grant_machine_parts.proofs.placing.Filling.first_fit.Goals as goal

-- what is found among the minislots is the first fit, while placements may be added
fit_found : (v : PartMap) (n lo hi last : ℕ) → not (nat_lt (length v.placements) most_placements) ≡ false → find (fits_at v.span v.placements n lo hi last) (range_with_len 0 v.span.len) ≡ first_fit v.span v.placements n lo hi last
fit_found v n lo hi last room = sym (ap (λ b. cond b (find (fits_at v.span v.placements n lo hi last) (range_with_len 0 v.span.len)) None) (not-false (nat_lt (length v.placements) most_placements) room))

found : (c : goal.After-first_fit) → c.first_fit.result ≡ first_fit c.args.self.now.span c.args.self.now.placements c.args.n c.args.lo c.args.hi c.args.last
found c =
    let full : not (nat_lt (length c.args.self.now.placements) most_placements) ≡ false = sym c.is_full.ensures ∙ c.if-is_full.false in
    c.first_fit.ensures c.self.inside.placements.items (subst (AreGaps (is_free c.self.inside.placements.items) 0 c.self.inside.len) (sym c.deref.ensures.value) c.self.invariant.gaps)
    ∙ ap (λ (v : PartMap). find (fits_at v.span v.placements c.args.n c.args.lo c.args.hi c.args.last) (range_with_len 0 v.span.len)) c.self.view_is
    ∙ fit_found c.args.self.now c.args.n c.args.lo c.args.hi c.args.last full

pub returns-clause-same : goal.returns-clause-same
returns-clause-same c = found c

pub returns-clause-within : goal.returns-clause-within
returns-clause-within c = fit_ends c.args.self.now c.args.n c.args.lo c.args.hi c.args.last c.first_fit.result (found c)

some_also : (o : Option ℕ) (P : Type 0) → P → IfSome o (λ x. P)
some_also (Some x) P h = h
some_also None P h = tt

pub returns-clause-short : goal.returns-clause-short
returns-clause-short c = some_also c.first_fit.result _ (subst (λ (v : PartMap). v.span.len ≤ most_minislots) c.self.view_is c.self.invariant.short)
