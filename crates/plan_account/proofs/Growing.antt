-- The tables of flows, with more happenings.
use Rattle.std.proofs.Common.{◌≡◌, ℕ, ◌+◌, List, [], ◌∷◌, ◌++◌, length, Result, OnOk, sym, ap, ◌∙◌, append-nil}
use Rattle.std.proofs.Common.{append_assoc, length-append, add-zero, arith}
use Rattle.std.proofs.lemmas.List.Sums.{fold-append}
use Rattle.std.specs.List.{fold}
use Rattle.plan_account.specs.declared.deed.Deed.{Deed}
use Rattle.plan_account.specs.declared.happening.Happening.{Happening}
use Rattle.plan_account.specs.declared.flows.Flows.{Flows}
use Rattle.plan_account.specs.declared.deed.Deed.TheVariants as deeds
use Rattle.plan_account.specs.Happenings.{mapped, tells, tells_from, told_by}
use Rattle.plan_account.specs.Shown.{Shown}
use Rattle.plan_account.specs.Pasts.{At, at_step, nothing}
use Rattle.plan_account.specs.FlowsHeld.{HoldsFlows, Grows, at_in}

-- some happenings, and then others
pub grows_both : (xs ys : List (ℕ × Happening)) (s t u : Flows) → Grows xs s t → Grows ys t u → Grows (xs ++ ys) s u
grows_both xs ys s t u first then = (
  then.0 ∙ first.0,
  λ q. then.1 q ∙ ap (λ (a : At). fold (at_step q) a ys) (first.1 q) ∙ sym (fold-append (at_step q) (at_in s q) xs ys),
)

tells_more : (command : ℕ) (ds : List Deed) (d : Deed) → tells_from command (ds ++ d ∷ []) ≡ tells_from command ds ++ tells (command + length ds) d
tells_more command [] d = append-nil (tells command d) ∙ ap (λ n. tells n d) (sym (add-zero command))
tells_more command (e ∷ ds) d =
    let rest = tells_more (command + 1) ds d in
    let n : ℕ = command + length (e ∷ ds) in
    let same : command + 1 + length ds ≡ n = omega arith in
    ap (λ (t : List (ℕ × Happening)). tells command e ++ t) (rest ∙ ap (λ m. tells_from (command + 1) ds ++ tells m d) same)
    ∙ sym (append_assoc (tells command e) (tells_from (command + 1) ds) (tells n d))

-- one deed more
pub holds_more : (ds : List Deed) (d : Deed) (s t u : Flows) (command : ℕ) → HoldsFlows ds s → command ≡ s.count + 1 → Grows (tells command d) s t
    → u.count ≡ command → ((q : ℕ) → at_in u q ≡ at_in t q) → HoldsFlows (ds ++ d ∷ []) u
holds_more ds d s t u command held is grows counted same = record {
  count = (let sizes = length-append ds (d ∷ []) in omega (arith, counted, is, held.count, sizes));
  at = λ q. same q ∙ grows.1 q ∙ ap (λ (a : At). fold (at_step q) a (tells command d)) (held.at q) ∙ sym (fold-append (at_step q) nothing (told_by ds) (tells command d))
      ∙ ap (λ (t : List (ℕ × Happening)). fold (at_step q) nothing t) (sym (whole q));
}
  where
    number : command ≡ 1 + length ds
    number = let counted = held.count in omega (arith, is, counted)

    whole : (q : ℕ) → told_by (ds ++ d ∷ []) ≡ told_by ds ++ tells command d
    whole q = tells_more 1 ds d ∙ ap (λ n. told_by ds ++ tells n d) (sym number)

-- what a MAP tells, of a call that may have failed
pub told_map : {T E : Type 0} (r : Result T E) (command : ℕ) (d : Deed) (s t : Flows) (ch start len keep : ℕ) (m : Shown) → d ≡ deeds.Map ch start len keep m
    → OnOk r (Grows (mapped ch start len keep m) s t) → OnOk r (Grows (tells command d) s t)
told_map r command d s t ch start len keep m is grown = rw is grown
