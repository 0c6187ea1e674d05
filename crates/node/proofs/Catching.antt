-- A node that is told of more catches up.
use Rattle.std.proofs.Common.{◌≡◌, ◌⊎◌, inl, inr, ⊎_elim, ℕ, zero, suc, ◌<◌, Bool, true, false, ◌&&◌, ◌==◌, nat_lt}
use Rattle.std.proofs.Common.{nat_le, cond, List, [], ◌∷◌, filter, take, Option, Some, None, refl, sym, ap, ◌∙◌, subst}
use Rattle.std.proofs.Common.{arith}
use Rattle.std.proofs.lemmas.Bool.{cases_order, lt-ltb, eq-eqb}
use Rattle.ballots.specs.Rows.{at, rows_from}
use Rattle.ballots.specs.Voting.{IsIn}
use Rattle.ballots.specs.declared.letters.Letter.{Letter}
use Rattle.ballots.specs.declared.letters.Note.TheVariants.{Known}
use Rattle.ballots.proofs.Callers.{at_in, at_put_other, at_put_same, in_put}
use Rattle.node.specs.View.{View}
use Rattle.node.specs.Step.{Outcome, first_known, heed, is_heeded, is_place, is_value, known, known_letters, letter}
use Rattle.node.specs.Step.{letters_told, nothing, receive}
use Rattle.node.specs.CatchesUp.{Agree, AreOfLog, CatchesUp, after_all}

pub in_take : {X : Type 0} (n : ℕ) (xs : List X) (x : X) → IsIn (take n xs) x → IsIn xs x
in_take zero xs x here = absurd here
in_take (suc n) [] x here = absurd here
in_take (suc n) (y ∷ xs) x (inl is) = inl is
in_take (suc n) (y ∷ xs) x (inr there) = inr (in_take n xs x there)

in_filter_step : {X : Type 0} (test : X → Bool) (y : X) (ys : List X) (x : X) (b : Bool) → test y ≡ b → IsIn (cond b (y ∷ filter test ys) (filter test ys)) x → (IsIn (filter test ys) x → IsIn ys x × (test x ≡ true)) → IsIn (y ∷ ys) x × (test x ≡ true)
in_filter_step test y ys x true is (inl same) rest = (inl same, ap test same ∙ is)
in_filter_step test y ys x true is (inr there) rest = let r = rest there in (inr r.0, r.1)
in_filter_step test y ys x false is there rest = let r = rest there in (inr r.0, r.1)

pub in_filter : {X : Type 0} (test : X → Bool) (ys : List X) (x : X) → IsIn (filter test ys) x → IsIn ys x × (test x ≡ true)
in_filter test [] x here = absurd here
in_filter test (y ∷ ys) x here = in_filter_step test y ys x (test y) refl here (in_filter test ys x)

module _ (view : View) (p : ℕ) (v : List ℕ) where
  -- a value that is learned stays
  known_stays : (j : ℕ) (w : List ℕ) (there : Option (List ℕ)) → at view.tally.learned p ≡ there → at view.tally.learned j ≡ Some w → at (known view there p v).view.tally.learned j ≡ Some w
  known_stays j w (Some value) is has = has
  known_stays j w None is has = elim (cases_order j p) [
    | inl same ↦ absurd (let here : at view.tally.learned p ≡ Some w = subst (λ (k : ℕ). at view.tally.learned k ≡ Some w) same has in cc)
    | inr (inl before) ↦ at_put_other view.tally.learned p v j (omega arith) ∙ has
    | inr (inr after) ↦ at_put_other view.tally.learned p v j (omega arith) ∙ has
  ]

  -- one that is told is learned, or was
  known_learns : (there : Option (List ℕ)) → at view.tally.learned p ≡ there → ((w : List ℕ) → there ≡ Some w → w ≡ v) → at (known view there p v).view.tally.learned p ≡ Some v
  known_learns (Some value) is agrees = is ∙ ap (λ (x : List ℕ). Some x) (agrees value refl)
  known_learns None is agrees = at_put_same view.tally.learned p v

  known_in : (j : ℕ) (x : List ℕ) (there : Option (List ℕ)) → IsIn (known view there p v).view.tally.learned (j, x) → ((j ≡ p) × (x ≡ v)) ⊎ IsIn view.tally.learned (j, x)
  known_in j x (Some value) here = inr here
  known_in j x None here = in_put view.tally.learned p v j x here

module _ (members me n : ℕ) (from : me < members) (to : n < members) where
  -- what is told of a place of the log is heeded
  heeds : (p : ℕ) (v : List ℕ) → is_place p ≡ true → is_value v ≡ true → is_heeded members n (letter me n (Known p v)) ≡ true
  heeds p v place short =
      ap (λ (x : Bool). x && nat_lt n members && n == n && (is_place p && is_value v)) (lt-ltb me members from)
      ∙ (ap (λ (x : Bool). x && n == n && (is_place p && is_value v)) (lt-ltb n members to)
      ∙ (ap (λ (x : Bool). x && (is_place p && is_value v)) (eq-eqb n n refl) ∙ (ap (λ (x : Bool). x && is_value v) place ∙ short)))

  takes : (view : View) (p : ℕ) (v : List ℕ) → (is_place p ≡ true) × (is_value v ≡ true) → receive members n view (letter me n (Known p v)) ≡ known view (at view.tally.learned p) p v
  takes view p v of_log = ap (λ (x : Bool). cond x (heed members n view me (Known p v)) (nothing view)) (heeds p v of_log.0 of_log.1)

  -- the node after one more letter
  abbrev next : View → ℕ × List ℕ → View
  next view row = (receive members n view (letter me n (Known row.0 row.1))).view

  all_stay : (rows : List (ℕ × List ℕ)) (view : View) → AreOfLog rows → (j : ℕ) (w : List ℕ) → at view.tally.learned j ≡ Some w → at (after_all members n view (known_letters me n rows)).tally.learned j ≡ Some w
  all_stay [] view of_log j w has = has
  all_stay (row ∷ rows) view of_log j w has =
      all_stay rows (next view row) (λ p v there. of_log p v (inr there)) j w
      (subst (λ (o : Outcome). at o.view.tally.learned j ≡ Some w) (sym (takes view row.0 row.1 (of_log row.0 row.1 (inl refl)))) (known_stays view row.0 row.1 j w (at view.tally.learned row.0) refl has))

  all_learn : (rows : List (ℕ × List ℕ)) (view : View) → AreOfLog rows → Agree rows rows → Agree view.tally.learned rows → (p : ℕ) (v : List ℕ) → IsIn rows (p, v) → at (after_all members n view (known_letters me n rows)).tally.learned p ≡ Some v
  all_learn [] view of_log single agree p v here = absurd here
  all_learn (row ∷ rows) view of_log single agree p v (inl is) =
      let first = takes view row.0 row.1 (of_log row.0 row.1 (inl refl)) in
      let learned = known_learns view row.0 row.1 (at view.tally.learned row.0) refl (λ w has. agree row.0 w row.1 (at_in view.tally.learned row.0 w has) (inl refl)) in
      all_stay rows (next view row) (λ j w there. of_log j w (inr there)) p v
      (subst (λ (r : ℕ × List ℕ). at (next view row).tally.learned r.0 ≡ Some r.1) (sym is) (subst (λ (o : Outcome). at o.view.tally.learned row.0 ≡ Some row.1) (sym first) learned))
  all_learn (row ∷ rows) view of_log single agree p v (inr there) =
      let first = takes view row.0 row.1 (of_log row.0 row.1 (inl refl)) in
      all_learn rows (next view row) (λ j w later. of_log j w (inr later)) (λ j x y one other. single j x y (inr one) (inr other))
      (λ j x y one other. ⊎_elim (λ new. single j x y (inl (λ i. (new.0 i, new.1 i))) (inr other)) (λ old. agree j x y old (inr other))
      (known_in view row.0 row.1 j x (at view.tally.learned row.0) (subst (λ (o : Outcome). IsIn o.view.tally.learned (j, x)) first one)))
      p v there

pub catches_up : CatchesUp
catches_up members me n q learned view from to of_log single agree p v there =
    let told : letters_told members me learned n q ≡ first_known me learned n q = ap (λ (x : Bool). cond x (first_known me learned n q) []) (lt-ltb n members to) in
    let was : (x : ℕ × List ℕ) → IsIn (take 64 (rows_from learned q)) x → IsIn learned x = λ x here. (in_filter (λ row. nat_le q row.0) learned x (in_take 64 (rows_from learned q) x here)).0 in
    subst (λ (letters : List Letter). at (after_all members n view letters).tally.learned p ≡ Some v) (sym told)
    (all_learn members me n from to (take 64 (rows_from learned q)) view (λ j w here. of_log j w (was (j, w) here)) (λ j x y one other. single j x y (was (j, x) one) (was (j, y) other))
    (λ j x y one other. agree j x y one (was (j, y) other)) p v there)
