-- Values that are taken from a node, one after another.
use Rattle.std.proofs.Common.{◌≡◌, ◌⊎◌, ◌∙◌, ℕ, zero, suc, ◌+◌, ◌≤◌, true, false, List, [], ◌∷◌, ◌++◌, length, Option}
use Rattle.std.proofs.Common.{Some, None, refl, sym, ap, subst, inl, inr, arith, length-append, slice_get}
use Rattle.std.proofs.lemmas.List.Sums.{fold_push}
use Rattle.std.proofs.lemmas.Option.{slice_get_within}
use Rattle.ballots.specs.Rows.{at}
use Rattle.node.specs.declared.node.Node.{Ghosts}
use Rattle.node.specs.View.{Standing, View}
use Rattle.node.specs.View.Standing.{Running, Stopped}
use Rattle.seats.specs.Occupant.{is_up, node_of}
use Rattle.seats.specs.Seat.{Shown, crashed}
use Rattle.seats.specs.declared.seat.Seat.{Seat}
use Rattle.epochs.specs.Scheduling.{SchedulerView, applied_to}
use Rattle.hosts.specs.Taking.{HasAt, TakesFrom}
use Rattle.hosts.specs.Views.{learned_at}

-- an element of a list with one more is one of it, or the last
last_or : {X : Type 0} (xs : List X) (y : X) (i : ℕ) (x : X) → slice_get (xs ++ y ∷ []) i ≡ Some x → (slice_get xs i ≡ Some x) ⊎ ((i ≡ length xs) × (y ≡ x))
last_or {X} xs y i x at = by xs i at
  where
    by : (xs : List X) (i : ℕ) → slice_get (xs ++ y ∷ []) i ≡ Some x → (slice_get xs i ≡ Some x) ⊎ ((i ≡ length xs) × (y ≡ x))
    by [] zero at = inr (refl, cc (at))
    by [] (suc i) at = absurd (omega (arith, slice_get_within (y ∷ []) (suc i) x at))
    by (z ∷ zs) zero at = inl at
    by (z ∷ zs) (suc i) at = elim (by zs i at) [ inl there ↦ inl there | inr last ↦ inr (ap suc last.0, last.1) ]

pub takes_none : {N : Type 0} {g : Ghosts N} (seat : Seat N g) (places first : ℕ) (s : SchedulerView) → first ≤ places → TakesFrom seat places first s first s
takes_none seat places first s le = record {
  more = [];
  learned = λ i x at. absurd (omega (arith, slice_get_within [] i x at));
  taken = omega arith;
  fits = le;
  applied = omega arith;
  scheduler = refl;
}

pub takes_more : {N : Type 0} {g : Ghosts N} (seat : Seat N g) (places first : ℕ) (s : SchedulerView) (last : ℕ) (s' s'' : SchedulerView) (x : List ℕ)
    → TakesFrom seat places first s last s' → last + 1 ≤ places → HasAt seat (last + 1) (Some x) → s'' ≡ applied_to s' x → TakesFrom seat places first s (last + 1) s''
takes_more {N} {g} seat places first s last s' s'' x takes le has is = record {
  more = takes.more ++ x ∷ [];
  learned = λ i y at. elim (last_or takes.more x i y at) [
    | inl there ↦ takes.learned i y there
    | inr at_end ↦
        let place : last + 1 ≡ first + i + 1 = omega (arith, takes.taken, at_end.0) in
        subst (λ p. HasAt seat p (Some y)) place (subst (λ v. HasAt seat (last + 1) (Some v)) at_end.1 has)
  ];
  taken = omega (arith, takes.taken, length-append takes.more (x ∷ []));
  fits = le;
  applied = omega (arith, ap (λ (t : SchedulerView). t.applied) is, takes.applied, length-append takes.more (x ∷ []));
  scheduler = is ∙ ap (λ (t : SchedulerView). applied_to t x) takes.scheduler ∙ sym (fold_push applied_to s takes.more x);
}

-- the same where the place is named by another number
pub takes_on : {N : Type 0} {g : Ghosts N} (seat : Seat N g) (places first : ℕ) (s : SchedulerView) (last place : ℕ) (s' s'' : SchedulerView) (x : List ℕ)
    → TakesFrom seat places first s last s' → last ≡ place → place + 1 ≤ places → HasAt seat (place + 1) (Some x) → s'' ≡ applied_to s' x
    → TakesFrom seat places first s (place + 1) s''
takes_on seat places first s last place s' s'' x takes same le has is =
    takes_more seat places first s place s' s'' x (subst (λ p. TakesFrom seat places first s p s') same takes) le has is

-- a node that is up has what it knows as learned
pub has_known : {N : Type 0} {g : Ghosts N} (seat : Seat N g) (p : ℕ) (found : Option (List ℕ)) → is_up seat ≡ true
    → ((view : View) → g.stands (node_of seat) (Running view) → view.tally.learned ≡ g.values (node_of seat)) → found ≡ at (g.values (node_of seat)) p → HasAt seat p found
has_known {N} {g} seat p found up known is s stands =
    let shown : Shown true (g.stands (node_of seat)) s = subst (λ b. Shown b (g.stands (node_of seat)) s) up stands in
    ap (λ (t : Standing). learned_at t p) shown.2 ∙ ap (λ rows. at rows p) (known shown.1 (subst (g.stands (node_of seat)) shown.2 shown.0)) ∙ sym is

-- one that crashed has nothing
pub has_nothing : {N : Type 0} {g : Ghosts N} (seat : Seat N g) (p : ℕ) → is_up seat ≡ false → HasAt seat p None
has_nothing {N} {g} seat p down s stands =
    let shown : Shown false (g.stands (node_of seat)) s = subst (λ b. Shown b (g.stands (node_of seat)) s) down stands in
    ap (λ (t : Standing). learned_at t p) shown.2 ∙ nothing shown.0
  where
    nothing : (t : Standing) → learned_at (crashed t) p ≡ None
    nothing (Running view) = refl
    nothing (Stopped c doubt) = refl
