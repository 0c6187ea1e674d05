-- Every history has its list of chosen values: whether a value is chosen at a place can be computed.
use Rattle.std.proofs.Common.{◌≡◌, ◌⊎◌, inl, inr, ℕ, zero, suc, ◌+◌, ◌*◌, ◌<◌, ◌≤◌, max, Bool, true, false, ◌&&◌, ◌==◌}
use Rattle.std.proofs.Common.{bytes_eq, List, [], ◌∷◌, length, refl, sym, ◌∙◌, ap, subst, arith, Some, slice_get}
use Rattle.std.proofs.lemmas.Bool.{and_parts, and_from, ltb-true, lt-ltb, eqb-true, eq-eqb, or_left, or_right}
use Rattle.std.proofs.lemmas.Slice.Eq.{bytes_eq-Decides}
use Rattle.std.specs.List.{list_any}
use Rattle.ballots.specs.Voting.{Entry, IsIn, IsChosen, count_below}
use Rattle.ballots.specs.Voting.Entry.{Promised, Vote}
use Rattle.ballots.proofs.Callers.{quorums_meet}
use Rattle.network_script.specs.Headline.{IsSchedule}
use Rattle.learner.specs.Tally.{is_majority}
use Rattle.network_script.proofs.Lists.{any_in}

count_more : (s t : ℕ → Bool) (n : ℕ) → ((m : ℕ) → m < n → s m ≡ true → t m ≡ true) → count_below s n ≤ count_below t n
count_more s t zero more = omega arith
count_more s t (suc n) more = step (s n) (t n) refl refl (count_more s t n (λ m below. more m (omega arith)))
  where
    step : (a b : Bool) → s n ≡ a → t n ≡ b → count_below s n ≤ count_below t n → count_below s (suc n) ≤ count_below t (suc n)
    step true false in_s in_t le = absurd (let e : t n ≡ true = more n (omega arith) in_s in let f : true ≡ false = sym e ∙ in_t in cc (f))
    step false true in_s in_t le = rw (in_s, in_t) (omega arith)
    step a b in_s in_t le = rw (in_s, in_t) (omega arith)

-- whether an entry is this vote
abbrev is_vote_of : ℕ → ℕ → ℕ → List ℕ → Entry → Bool
is_vote_of m b p v (Promised n c) = false
is_vote_of m b p v (Vote n c q w) = n == m && c == b && q == p && bytes_eq w v

abbrev has_vote : List Entry → ℕ → ℕ → List ℕ → ℕ → Bool
has_vote h b p v m = list_any (is_vote_of m b p v) h

vote_tells : (m b p : ℕ) (v : List ℕ) (e : Entry) → is_vote_of m b p v e ≡ true → e ≡ Vote m b p v
vote_tells m b p v (Promised n c) is = absurd (cc (is))
vote_tells m b p v (Vote n c q w) is =
    let x = and_parts (n == m && c == b && q == p) (bytes_eq w v) is in
    let y = and_parts (n == m && c == b) (q == p) x.0 in
    let z = and_parts (n == m) (c == b) y.0 in
    let node = eqb-true n m z.0 in
    let ballot = eqb-true c b z.1 in
    let place = eqb-true q p y.1 in
    let value : w ≡ v = (bytes_eq-Decides w v).0 x.1 in
    λ i. Vote (node i) (ballot i) (place i) (value i)

itself : (m b p : ℕ) (v : List ℕ) → is_vote_of m b p v (Vote m b p v) ≡ true
itself m b p v =
    and_from (m == m && b == b && p == p) (bytes_eq v v) (and_from (m == m && b == b) (p == p) (and_from (m == m) (b == b) (eq-eqb m m refl) (eq-eqb b b refl)) (eq-eqb p p refl)) ((bytes_eq-Decides v v).1 refl)

in_any : {X : Type 0} (test : X → Bool) (xs : List X) (x : X) → IsIn xs x → test x ≡ true → list_any test xs ≡ true
in_any test [] x here is = absurd here
in_any test (y ∷ xs) x (inl same) is = or_left (test y) (list_any test xs) (sym (ap test same) ∙ is)
in_any test (y ∷ xs) x (inr there) is = or_right (test y) (list_any test xs) (in_any test xs x there is)

module _ (members : ℕ) (h : List Entry) where
  voted_in : (b p : ℕ) (v : List ℕ) (m : ℕ) → has_vote h b p v m ≡ true → IsIn h (Vote m b p v)
  voted_in b p v m is = let r = any_in (is_vote_of m b p v) h is in subst (λ (e : Entry). IsIn h e) (vote_tells m b p v r.0 r.2) r.1

  -- whether this entry is a vote at the place whose value a majority voted for in its ballot
  abbrev decides : ℕ → Entry → Bool
  decides p (Promised n b) = false
  decides p (Vote n b q v) = q == p && is_majority members (has_vote h b p v)

  chosen_by : (p : ℕ) (e : Entry) → decides p e ≡ true → (v : List ℕ) × IsChosen members h p v
  chosen_by p (Promised n b) is = absurd (cc (is))
  chosen_by p (Vote n b q v) is =
      let x = and_parts (q == p) (is_majority members (has_vote h b p v)) is in
      (v, record { ballot = b; quorum = record { set = has_vote h b p v; majority = ltb-true members (2 * count_below (has_vote h b p v) members) x.1 }; votes = λ m is_of. voted_in b p v m is_of.1 })

  decided : (p : ℕ) (v : List ℕ) → IsChosen members h p v → list_any (decides p) h ≡ true
  decided p v chosen =
      let some = quorums_meet members chosen.quorum chosen.quorum in
      let more : count_below chosen.quorum.set members ≤ count_below (has_vote h chosen.ballot p v) members =
      count_more chosen.quorum.set (has_vote h chosen.ballot p v) members (λ m below is. in_any (is_vote_of m chosen.ballot p v) h (Vote m chosen.ballot p v) (chosen.votes m (below, is)) (itself m chosen.ballot p v)) in
      in_any (decides p) h (Vote some.0 chosen.ballot p v) (chosen.votes some.0 some.1)
      (and_from (p == p) (is_majority members (has_vote h chosen.ballot p v)) (eq-eqb p p refl) (lt-ltb members (2 * count_below (has_vote h chosen.ballot p v) members) (omega (arith, chosen.quorum.majority))))

  -- a value is chosen at the place, or none is
  chosen_or_not : (p : ℕ) → ((v : List ℕ) × IsChosen members h p v) ⊎ ((v : List ℕ) → IsChosen members h p v → ⊥)
  chosen_or_not p = go (list_any (decides p) h) refl
    where
      go : (b : Bool) → list_any (decides p) h ≡ b → ((v : List ℕ) × IsChosen members h p v) ⊎ ((v : List ℕ) → IsChosen members h p v → ⊥)
      go true is = let r = any_in (decides p) h is in inl (chosen_by p r.0 r.2)
      go false is = inr (λ v chosen. let e : true ≡ false = sym (decided p v chosen) ∙ is in cc (e))

  -- the chosen values from place p on, where none is chosen n places on
  record From (p : ℕ) : Type 0 where
    values : List (List ℕ)
    each : (k : ℕ) (v : List ℕ) → slice_get values k ≡ Some v → IsChosen members h (p + k) v
    end : (v : List ℕ) → IsChosen members h (p + length values) v → ⊥

  none_from : (p : ℕ) → ((v : List ℕ) → IsChosen members h p v → ⊥) → From p
  none_from p none = record { values = []; each = λ k v is. absurd (cc (is)); end = λ v chosen. none v (subst (λ (q : ℕ). IsChosen members h q v) (omega arith) chosen) }

  one_from : (p : ℕ) (v : List ℕ) → IsChosen members h p v → From (p + 1) → From p
  one_from p v chosen rest = record {
    values = v ∷ rest.values;
    each = each;
    end = λ w is. rest.end w (subst (λ (q : ℕ). IsChosen members h q w) (omega arith) is);
  }
    where
      each : (k : ℕ) (w : List ℕ) → slice_get (v ∷ rest.values) k ≡ Some w → IsChosen members h (p + k) w
      each zero w is =
          let same : v ≡ w = cc (is) in
          subst (λ (x : List ℕ). IsChosen members h (p + zero) x) same (subst (λ (q : ℕ). IsChosen members h q v) (omega arith) chosen)
      each (suc k) w is = subst (λ (q : ℕ). IsChosen members h q w) (omega arith) (rest.each k w is)

  from : (n p : ℕ) → ((q : ℕ) (v : List ℕ) → p + n ≤ q → IsChosen members h q v → ⊥) → From p
  from zero p none = none_from p (λ v. none p v (omega arith))
  from (suc n) p none = go (chosen_or_not p) (from n (p + 1) (λ q v past. none q v (omega arith)))
    where
      go : ((v : List ℕ) × IsChosen members h p v) ⊎ ((v : List ℕ) → IsChosen members h p v → ⊥) → From (p + 1) → From p
      go (inl some) rest = one_from p some.0 some.1 rest
      go (inr not) rest = none_from p not

abbrev place_in : Entry → ℕ
place_in (Promised n b) = 0
place_in (Vote n b p v) = p

last_place_in : List Entry → ℕ
last_place_in [] = 0
last_place_in (e ∷ h) = max (place_in e) (last_place_in h)

in_last : (h : List Entry) (e : Entry) → IsIn h e → place_in e ≤ last_place_in h
unfolding last_place_in
in_last [] e here = absurd here
in_last (x ∷ h) e (inl is) = let same : place_in e ≡ place_in x = ap place_in is in omega arith
in_last (x ∷ h) e (inr there) = omega (arith, in_last h e there)

pub schedule_exists : (members : ℕ) (h : List Entry) → (c : List (List ℕ)) × IsSchedule members h c
schedule_exists members h =
    let all : From members h 1 = from members h (last_place_in h) 1 (λ q v past chosen.
    let some = quorums_meet members chosen.quorum chosen.quorum in
    let low : q ≤ last_place_in h = in_last h (Vote some.0 chosen.ballot q v) (chosen.votes some.0 some.1) in
    omega arith) in (
      all.values,
      record {
        chosen = λ k v is. subst (λ (q : ℕ). IsChosen members h q v) (omega arith) (all.each k v is);
        whole = λ v chosen. all.end v (subst (λ (q : ℕ). IsChosen members h q v) (omega arith) chosen);
      },
    )
