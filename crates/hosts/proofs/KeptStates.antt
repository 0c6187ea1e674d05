-- What a host keeps of states as it goes on.
use Rattle.std.proofs.Common.{◌≡◌, ◌∙◌, ℕ, ◌+◌, ◌≤◌, true, false, List, [], ◌∷◌, ◌++◌, length, Option, Some, None}
use Rattle.std.proofs.Common.{refl, sym}
use Rattle.std.proofs.Common.{ap, subst, arith}
use Rattle.std.specs.Prelude.{IsTrue, is_some}
use Rattle.std.proofs.lemmas.List.{append-nil}
use Rattle.flow_state.specs.Rows.{Rows}
use Rattle.host_states.specs.States.{IsState}
use Rattle.epochs.specs.Epochs.{values_of}
use Rattle.epochs.specs.Scheduling.{tables_after}
use Rattle.hosts.specs.States.{AreStates, IsMade, IsNextState, IsOwnState, IsStateOf, StatesView, gone_on, head_in}

-- places and states that are the same
pub same_states : (p p' : ℕ) (passed : List (List (List ℕ))) (own : List (List ℕ)) (s s' : StatesView) → p' ≡ p → s' ≡ s → AreStates p passed own s → AreStates p' passed own s'
same_states p p' passed own s s' places states are =
    subst (λ (x : StatesView). AreStates p' passed own x) (sym states) (subst (λ n. AreStates n passed own s) (sym places) are)

-- the state of the next epoch is that of its own one
own_of_next : (s t : StatesView) (places : ℕ) (known : List (List (List ℕ))) (next : Option (List ℕ)) → t.id ≡ s.id → t.members ≡ s.members → IsTrue (is_some next)
    → IsNextState s places known next → IsOwnState t places known next
own_of_next s t places known None id members some is = let wrong : false ≡ true = some in absurd (cc (wrong))
own_of_next s t places known (Some bytes) id members some is =
    subst (λ m. IsStateOf t.id m places known bytes) (sym members) (subst (λ n. IsStateOf n s.members places known bytes) (sym id) is)

pub gone_states : (places : ℕ) (passed : List (List (List ℕ))) (own : List (List ℕ)) (s : StatesView) → IsTrue (is_some s.next) → AreStates places passed own s
    → AreStates places (passed ++ own ∷ []) [] (gone_on s)
gone_states places passed own s some are = record {
  own_state = own_of_next s (gone_on s) places (passed ++ own ∷ []) s.next refl refl some are.next_state;
  next_state = tt;
}

-- with more values of its own epoch; there are none where the state of the next one was there
none_more : (more : List (List ℕ)) → length more ≤ 0 → more ≡ []
none_more [] le = refl
none_more (x ∷ more) le = absurd (omega (arith, le))

pub more_states : (places : ℕ) (passed : List (List (List ℕ))) (own more : List (List ℕ)) (s : StatesView) → (IsTrue (is_some s.next) → length more ≤ 0) → AreStates places passed own s
    → AreStates places passed (own ++ more) s
more_states places passed own more s full are = record { own_state = are.own_state; next_state = by s.next refl }
  where
    by : (next : Option (List ℕ)) → s.next ≡ next → IsNextState s places (passed ++ (own ++ more) ∷ []) next
    by None is = tt
    by (Some bytes) is =
        let some : IsTrue (is_some s.next) = ap (λ (x : Option (List ℕ)). is_some x) is in
        let none : own ++ more ≡ own = ap (λ (m : List (List ℕ)). own ++ m) (none_more more (full some)) ∙ append-nil own in
        subst (λ (o : List (List ℕ)). IsStateOf s.id s.members places (passed ++ o ∷ []) bytes) (sym none)
        (subst (λ (x : Option (List ℕ)). IsNextState s places (passed ++ own ∷ []) x) is are.next_state)

-- the state that was made of the tables is that of the next epoch
pub made_state : (s : StatesView) (epoch places applied : ℕ) (rows : Rows) (bytes : List ℕ) (known : List (List (List ℕ))) → epoch ≡ length known + 1 → applied ≡ length (values_of places known)
    → rows ≡ tables_after (values_of places known) → IsMade s epoch places applied rows bytes → IsStateOf s.id s.members places known bytes
made_state s epoch places applied rows bytes known number before tables made =
    subst (λ (r : Rows). IsState bytes (head_in s (length known + 1) places (length (values_of places known))) r) tables
    (subst (λ n. IsState bytes (head_in s (length known + 1) places n) rows) before
    (subst (λ e. IsState bytes (head_in s e places applied) rows) number made))

pub next_states : (places : ℕ) (passed : List (List (List ℕ))) (own : List (List ℕ)) (s : StatesView) (bytes : List ℕ) → IsOwnState s places passed s.own
    → IsStateOf s.id s.members places (passed ++ own ∷ []) bytes → AreStates places passed own (record s { next = Some bytes })
next_states places passed own s bytes are is = record { own_state = by s.own are; next_state = is }
  where
    by : (o : Option (List ℕ)) → IsOwnState s places passed o → IsOwnState (record s { next = Some bytes }) places passed o
    by None none = none
    by (Some x) there = there

pub own_states : (places : ℕ) (passed : List (List (List ℕ))) (s : StatesView) (bytes : List ℕ) → IsStateOf s.id s.members places passed bytes
    → AreStates places passed [] (record s { own = Some bytes; next = None })
own_states places passed s bytes is = record { own_state = is; next_state = tt }
