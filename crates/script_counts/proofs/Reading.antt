-- What is read off events and answers, one after another.
use Rattle.std.proofs.Common.{◌≡◌, ◌⊎◌, ◌↔◌, inl, inr, ℕ, zero, suc, ◌+◌, ◌<◌, ◌≤◌, List, [], ◌∷◌, ◌++◌, length, drop}
use Rattle.std.proofs.Common.{map, Option, None, Some, false, IsTrue, slice_get, option_to_list, refl, add-one, arith}
use Rattle.std.proofs.lemmas.List.{drop_all}
use Rattle.grant_machine.specs.declared.command.Command.{Command}
use Rattle.command_log.specs.Spelling.{spelling}
use Rattle.world_events.specs.declared.event.Event.{Event}
use Rattle.seats.specs.declared.answer.Answer.{Answer}
use Rattle.script_counts.specs.Counts.{read_off, crash_of, leader_of, changes, value_of}

no_answers : {A : Type 0} (what : Event → Answer → List A) (events : List Event) → read_off what events [] ≡ []
no_answers what [] = refl
no_answers what (event ∷ events) = refl

-- behind the last one nothing is read
pub read_end : {A : Type 0} (what : Event → Answer → List A) (events : List Event) (answers : List Answer) (i : ℕ) → (length events ≤ i) ⊎ (length answers ≤ i)
    → read_off what (drop i events) (drop i answers) ≡ []
read_end what events answers i (inl past) = rw (drop_all i events past) refl
read_end what events answers i (inr past) = rw (drop_all i answers past) (no_answers what (drop i events))

past_of : (events : List Event) (answers : List Answer) (n i : ℕ) → n ≤ i → (length events ≤ n) ⊎ (length answers ≤ n) → (length events ≤ i) ⊎ (length answers ≤ i)
past_of events answers n i done (inl all) = inl (omega arith)
past_of events answers n i done (inr all) = inr (omega arith)

-- when all are read, they are counted
pub crash_all : (events : List Event) (answers : List Answer) (n i count total : ℕ) → n ≤ i → (length events ≤ n) ⊎ (length answers ≤ n)
    → count + length (read_off crash_of (drop i events) (drop i answers)) ≡ total → count ≡ total
crash_all events answers n i count total done all before =
    let read = rw (read_end crash_of events answers i (past_of events answers n i done all)) at before in omega arith

one_is_no_change : (last : Option ℕ) → changes (option_to_list last ++ []) ≡ 0
one_is_no_change None = refl
one_is_no_change (Some k) = refl

pub lead_all : (events : List Event) (answers : List Answer) (n i count total : ℕ) (last : Option ℕ) → n ≤ i → (length events ≤ n) ⊎ (length answers ≤ n)
    → count + changes (option_to_list last ++ read_off leader_of (drop i events) (drop i answers)) ≡ total → count ≡ total
lead_all events answers n i count total last done all before =
    let read = rw (read_end leader_of events answers i (past_of events answers n i done all), one_is_no_change last) at before in omega arith

-- what a list has at an index, and from it on
pub record IsAt {A : Type 0} (xs : List A) (n : ℕ) (x : A) : Type 0 where
  pub got : slice_get xs n ≡ Some x
  pub rest : drop n xs ≡ x ∷ drop (n + 1) xs
  pub below : n < length xs

pub record IsPast {A : Type 0} (xs : List A) (n : ℕ) : Type 0 where
  pub got : slice_get xs n ≡ None
  pub rest : drop n xs ≡ []
  pub all : length xs ≤ n

at_suc : {A : Type 0} (y : A) (xs : List A) (n : ℕ) → (IsPast xs n) ⊎ ((x : A) × IsAt xs n x) → (IsPast (y ∷ xs) (suc n)) ⊎ ((x : A) × IsAt (y ∷ xs) (suc n) x)
at_suc y xs n (inl past) = inl (record { got = past.got; rest = past.rest; all = (let all = past.all in omega arith) })
at_suc y xs n (inr (x, at)) = inr (x, record { got = at.got; rest = rw (add-one (suc n)) (rw (add-one n) at at.rest); below = (let below = at.below in omega arith) })

pub at_index : {A : Type 0} (xs : List A) (n : ℕ) → (IsPast xs n) ⊎ ((x : A) × IsAt xs n x)
at_index [] zero = inl (record { got = refl; rest = refl; all = omega arith })
at_index [] (suc n) = inl (record { got = refl; rest = refl; all = omega arith })
at_index (x ∷ xs) zero = inr (x, record { got = refl; rest = refl; below = omega arith })
at_index (x ∷ xs) (suc n) = at_suc x xs n (at_index xs n)

-- lists that begin alike are the same where the rests are
alike : (P : Type 0) (v w : List ℕ) (vs ws : List (List ℕ)) → v ≡ w → P ↔ (v ∷ vs ≡ w ∷ ws) → P ↔ (vs ≡ ws)
alike P v w vs ws same before = (λ p. let e = before.0 p in cc, λ e. before.1 (rw (e, same) refl))

next_of : (commands : List Command) (P : Type 0) (count : ℕ) (v : List ℕ) (vs : List (List ℕ)) (command : Command) → (IsPast commands count) ⊎ ((x : Command) × IsAt commands count x)
    → slice_get commands count ≡ Some command → v ≡ spelling command → P ↔ (v ∷ vs ≡ map spelling (drop count commands)) → P ↔ (vs ≡ map spelling (drop (count + 1) commands))
next_of commands P count v vs command (inl past) found spelled before = let none = past.got in absurd cc
next_of commands P count v vs command (inr (x, at)) found spelled before =
    let got = at.got in
    let same : x ≡ command = cc in
    alike P v (spelling x) vs (map spelling (drop (count + 1) commands)) (rw same spelled) (rw at.rest at before)

-- an offer that was taken, of the next command
pub offer_some : (commands : List Command) (read rest : List (List ℕ)) (P : Type 0) (count : ℕ) (v : List ℕ) (command : Command)
    → read ≡ v ∷ rest → slice_get commands count ≡ Some command → v ≡ spelling command
    → P ↔ (read ≡ map spelling (drop count commands)) → P ↔ (rest ≡ map spelling (drop (count + 1) commands))
offer_some commands read rest P count v command is found spelled before = next_of commands P count v rest command (at_index commands count) found spelled (rw is at before)

not_next : (commands : List Command) (count : ℕ) (v : List ℕ) (vs : List (List ℕ)) → (IsPast commands count) ⊎ ((x : Command) × IsAt commands count x)
    → ((command : Command) × (slice_get commands count ≡ Some command) × (v ≡ spelling command) → ⊥) → v ∷ vs ≡ map spelling (drop count commands) → ⊥
not_next commands count v vs (inl past) none same = let no = rw past.rest at same in cc
not_next commands count v vs (inr (x, at)) none same = let is = rw at.rest at same in none (x, at.got, cc)

-- an offer that was taken, of something else than the next command
pub offer_other : (commands : List Command) (read rest : List (List ℕ)) (P : Type 0) (count : ℕ) (v : List ℕ) → read ≡ v ∷ rest
    → ((command : Command) × (slice_get commands count ≡ Some command) × (v ≡ spelling command) → ⊥) → P ↔ (read ≡ map spelling (drop count commands)) → P → ⊥
offer_other commands read rest P count v is none before = λ p. not_next commands count v rest (at_index commands count) none (rw is at before.0 p)

left_of : (commands : List Command) (count : ℕ) (P : Type 0) → (IsPast commands count) ⊎ ((x : Command) × IsAt commands count x) → P ↔ ([] ≡ map spelling (drop count commands)) → P ↔ (length commands ≤ count)
left_of commands count P (inl past) before = (λ p. past.all, λ none. before.1 (rw past.rest refl))
left_of commands count P (inr (x, at)) before =
    let below = at.below in (λ p. let e = rw at.rest at before.0 p in absurd cc, λ none. absurd (omega arith))

-- when all offers are read, no command is left or some are
pub offers_end : (commands : List Command) (events : List Event) (answers : List Answer) (n i : ℕ) (P : Type 0) (count : ℕ) → n ≤ i → (length events ≤ n) ⊎ (length answers ≤ n)
    → P ↔ (read_off value_of (drop i events) (drop i answers) ≡ map spelling (drop count commands)) → P ↔ (length commands ≤ count)
offers_end commands events answers n i P count done all before =
    left_of commands count P (at_index commands count) (rw (read_end value_of events answers i (past_of events answers n i done all)) at before)

none_at : (commands : List Command) (index : ℕ) (x : Command) → length commands ≤ index → (IsPast commands index) ⊎ ((y : Command) × IsAt commands index y) → slice_get commands index ≡ Some x → ⊥
none_at commands index x past (inl none) found = let got = none.got in cc
none_at commands index x past (inr (y, at)) found = let below = at.below in absurd (omega arith)

-- it isn't where none is found
pub of_none : (commands : List Command) (index : ℕ) (v : List ℕ) → length commands ≤ index → IsTrue false ↔ ((x : Command) × (slice_get commands index ≡ Some x) × (v ≡ spelling x))
of_none commands index v past = (λ no. absurd cc, λ found. absurd (none_at commands index found.0 past (at_index commands index) found.1))

-- what isn't the next command's isn't all
pub not_all : (P : Type 0) → (P → ⊥) → IsTrue false ↔ P
not_all P none = (λ no. absurd cc, λ p. absurd (none p))
