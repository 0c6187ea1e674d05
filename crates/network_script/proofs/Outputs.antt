-- Gapless learned values, the outputs that they give, and which of them stand in the outputs of the chosen values.
use Rattle.std.proofs.Common.{◌≡◌, inl, inr, ⊎_elim, ℕ, zero, suc, ◌+◌, ◌<◌, ◌≤◌, Bool, true, false, cond, ◌==◌, List}
use Rattle.std.proofs.Common.{[], ◌∷◌, length, drop, refl, sym, ap, subst, arith, Option, Some, slice_get}
use Rattle.std.proofs.lemmas.Bool.{eqb-true, cases_lt}
use Rattle.std.proofs.lemmas.Option.{slice_get_cases, slice_get_within}
use Rattle.ballots.specs.Voting.{Entry, IsIn, IsLegal, IsChosen}
use Rattle.ballots.proofs.Callers.{agreement}
use Rattle.acceptor.specs.Content.{Write, record_write}
use Rattle.acceptor.specs.Content.Write.{Promises, Votes}
use Rattle.grant_machine.specs.declared.output.Output.{Output}
use Rattle.command_log.specs.Values.{outputs_of_values}
use Rattle.node.specs.View.{View, gapless, values_from}
use Rattle.map_release.specs.declared.numbered.Numbered.{Numbered}
use Rattle.seats.specs.declared.answer.ReleasedOutput.{ReleasedOutput}
use Rattle.map_release.specs.Released.{numbered}
use Rattle.network_script.specs.World.{released_by}
use Rattle.network_script.specs.Headline.{IsBeginning, IsSchedule}

values_step : (p : ℕ) (row : ℕ × List ℕ) (rows : List (ℕ × List ℕ)) (b : Bool) → row.0 == p ≡ b → (k : ℕ) (v : List ℕ) → slice_get (cond b (row.1 ∷ values_from (p + 1) rows) []) k ≡ Some v
    → ((j : ℕ) → slice_get (values_from (p + 1) rows) j ≡ Some v → IsIn rows (p + 1 + j, v)) → IsIn (row ∷ rows) (p + k, v)
values_step p row rows false is k v here rest = absurd (cc (here))
values_step p row rows true is zero v here rest =
    let place : p + zero ≡ row.0 = (let e : row.0 ≡ p = eqb-true row.0 p is in omega arith) in
    let value : v ≡ row.1 = cc (here) in
    inl (λ i. (place i, value i))
values_step p row rows true is (suc k) v here rest = inr (subst (λ (q : ℕ). IsIn rows (q, v)) (omega arith) (rest k here))

pub in_values : (p : ℕ) (rows : List (ℕ × List ℕ)) (k : ℕ) (v : List ℕ) → slice_get (values_from p rows) k ≡ Some v → IsIn rows (p + k, v)
in_values p [] k v here = absurd (cc (here))
in_values p (row ∷ rows) k v here = values_step p row rows (row.0 == p) refl k v here (λ j. in_values (p + 1) rows j v)

-- a list that agrees with another wherever both have an element, and is no longer, is its beginning
pub beginning : {X : Type 0} (xs ys : List X) → ((k : ℕ) (x y : X) → slice_get xs k ≡ Some x → slice_get ys k ≡ Some y → x ≡ y) → ((k : ℕ) (x : X) → slice_get xs k ≡ Some x → k < length ys) → IsBeginning xs ys
beginning [] ys same short = (ys, refl)
beginning (x ∷ xs) [] same short = absurd (let e : zero < zero = short zero x refl in omega arith)
beginning (x ∷ xs) (y ∷ ys) same short =
    let rest = beginning xs ys (λ k. same (suc k)) (λ k z is. let e : suc k < suc (length ys) = short (suc k) z is in omega arith) in
    let first : x ≡ y = same zero x y refl refl in
    (rest.0, λ i. first i ∷ rest.1 i)

pub get_some : {X : Type 0} (xs : List X) (k : ℕ) → k < length xs → (x : X) × (slice_get xs k ≡ Some x)
get_some xs k within = ⊎_elim (λ there. (there.0, there.2)) (λ past. absurd (omega (arith, past.0))) (slice_get_cases xs k).1

earlier_some : {X : Type 0} (xs : List X) (k : ℕ) (x : X) (j : ℕ) → slice_get xs k ≡ Some x → j ≤ k → (y : X) × (slice_get xs j ≡ Some y)
earlier_some xs k x j is le = let e : k < length xs = slice_get_within xs k x is in get_some xs j (omega arith)

-- each of the values is chosen at its place
abbrev pub AreChosen : ℕ → List Entry → List (List ℕ) → Type 0
AreChosen members h values = (k : ℕ) (v : List ℕ) → slice_get values k ≡ Some v → IsChosen members h (k + 1) v

pub chosen_beginning : (members : ℕ) (h : List Entry) (values c : List (List ℕ)) → IsLegal members h → AreChosen members h values → IsSchedule members h c → IsBeginning values c
chosen_beginning members h values c legal chosen schedule = beginning values c (λ k v w x y. agreement members h (k + 1) v w legal (chosen k v x) (schedule.chosen k w y)) (λ k v is. ⊎_elim (λ within. within) (λ past. absurd (beyond k v is past)) (cases_lt k (length c)))
  where
    beyond : (k : ℕ) (v : List ℕ) → slice_get values k ≡ Some v → length c ≤ k → ⊥
    beyond k v is past = let first = earlier_some values k v (length c) is past in schedule.whole first.0 (chosen (length c) first.0 first.1)

pub learned_chosen : (members : ℕ) (h : List Entry) (view : View) → ((p : ℕ) (v : List ℕ) → IsIn view.tally.learned (p, v) → IsChosen members h p v) → AreChosen members h (gapless view)
learned_chosen members h view learned k v is = learned (k + 1) v (subst (λ (q : ℕ). IsIn view.tally.learned (q, v)) (omega arith) (in_values 1 view.tally.learned k v is))

pub in_drop : {X : Type 0} (n : ℕ) (xs : List X) (x : X) → IsIn (drop n xs) x → IsIn xs x
in_drop zero xs x here = here
in_drop (suc n) [] x here = absurd here
in_drop (suc n) (y ∷ xs) x here = inr (in_drop n xs x here)

-- an output stands at its place
abbrev pub StandsIn : List Output → Numbered → Type 0
StandsIn outputs x = (place : ℕ) × (x.place ≡ place + 1) × (slice_get outputs place ≡ Some x.output)

pub in_numbered : (p : ℕ) (outputs : List Output) (x : Numbered) → IsIn (numbered p outputs) x → (i : ℕ) × (x.place ≡ i + p) × (slice_get outputs i ≡ Some x.output)
in_numbered p [] x here = absurd here
in_numbered p (o ∷ outputs) x (inl is) = let e : x.place ≡ p = ap (λ (y : Numbered). y.place) is in (zero, omega arith, ap (λ (y : Numbered). Some y.output) (sym is))
in_numbered p (o ∷ outputs) x (inr there) = let r = in_numbered (p + 1) outputs x there in (suc r.0, (let e : x.place ≡ r.0 + (p + 1) = r.1 in omega arith), r.2)

pub in_released_by : (k : ℕ) (xs : List Numbered) (y : ReleasedOutput) → IsIn (released_by k xs) y → IsIn xs y.numbered
in_released_by k [] y here = absurd here
in_released_by k (x ∷ xs) y (inl is) = inl (ap (λ (z : ReleasedOutput). z.numbered) is)
in_released_by k (x ∷ xs) y (inr there) = inr (in_released_by k xs y there)

pub written_keeps : (k : ℕ) (w : Option Write) (h : List Entry) (e : Entry) → IsIn h e → IsIn (record_write k w h) e
written_keeps k (Some (Promises b)) h e here = inr here
written_keeps k (Some (Votes p cast)) h e here = inr here
written_keeps k other h e here = here

pub chosen_keeps : (members : ℕ) (h later : List Entry) → ((e : Entry) → IsIn h e → IsIn later e) → (values : List (List ℕ)) → AreChosen members h values → AreChosen members later values
chosen_keeps members h later keeps values chosen k v is = let c = chosen k v is in record { ballot = c.ballot; quorum = c.quorum; votes = λ n is_of. keeps _ (c.votes n is_of) }

-- an output that was released is among the outputs of some chosen values
abbrev pub FromChosen : ℕ → List Entry → ReleasedOutput → Type 0
FromChosen members h x = (values : List (List ℕ)) × AreChosen members h values × StandsIn (outputs_of_values values) x.numbered
