-- A proposer's turns are the cases of the node's table.
use Rattle.std.proofs.Common.{◌≡◌, ℕ, ◌+◌, ◌-◌, Bool, true, false, cond, ◌&&◌, not, ◌==◌, nat_eq, nat_le, nat_lt, List}
use Rattle.std.proofs.Common.{[], ◌∷◌, length, refl, ap, ◌∙◌, Result, Ok, Err}
use Rattle.std.specs.List.{list_any}
use Rattle.std.proofs.lemmas.Bool.{and_parts}
use Rattle.ballots.specs.Limits.{most_places, longest_value}
use Rattle.ballots.specs.declared.letters.Cast.{Cast}
use Rattle.ballots.specs.declared.letters.Note.TheVariants.{Accept}
use Rattle.proposer.specs.Bounds.{in_log}
use Rattle.proposer.specs.Joining.{join, place_after}
use Rattle.proposer.specs.Turns as turn
use Rattle.proposer.specs.Turns.{Turn, are_majority}
use Rattle.proposer.specs.declared.role.Role.{Role}
use Rattle.proposer.specs.declared.role.Role.TheVariants.{Idle, Preparing, Leading}
use Rattle.proposer.specs.declared.fault.NodeFault.{NodeFault as Fault}
use Rattle.node.specs.Calls.{IsStop}
use Rattle.node.specs.View.{View}
use Rattle.node.specs.Step.{Outcome, nothing, sends, promise, after_promise, offer, proposals, are_votes, is_place}
use Rattle.node.specs.Step.{is_value, to_all}

-- what a turn leaves of a view
abbrev pub turned : View → Turn → Outcome
turned view t = sends (record view { role = t.role }) t.letters

-- a turn that is declined for want of memory or by a store
abbrev pub StopsTurn : Result Turn Fault → Type 0
StopsTurn (Ok t) = ⊥
StopsTurn (Err fault) = IsStop fault

module _ (members me : ℕ) (view : View) where
  stays : (role : Role) → view.role ≡ role → nothing view ≡ turned view (turn.stays role)
  stays role is = λ i. nothing (record view { role = is i })

  after_so : (b q : ℕ) (counted : List ℕ) (joined : List (ℕ × Cast)) → after_promise members me view b q counted joined ≡ turned view (turn.after_promise members me b q counted joined)
  after_so b q counted joined = by_test (are_majority members counted)
    where
      by_test : (x : Bool) → cond x (sends (record view { role = Leading b (place_after q joined) }) (proposals members me b joined q (place_after q joined - q))) (nothing (record view { role = Preparing b q counted joined }))
          ≡ turned view (cond x (record { role = Leading b (place_after q joined); letters = proposals members me b joined q (place_after q joined - q) }) (turn.stays (Preparing b q counted joined)))
      by_test true = refl
      by_test false = refl

  pub promise_so : (role : Role) → view.role ≡ role → (b q : ℕ) (votes : List (ℕ × Cast)) (n : ℕ) → promise members me view role b q votes n ≡ turned view (turn.promise members me role b q votes n)
  promise_so Idle is b q votes n = stays Idle is
  promise_so (Leading c next) is b q votes n = stays (Leading c next) is
  promise_so (Preparing c place counted joined) is b q votes n = by_test (b == c && q == place && not (list_any (nat_eq n) counted))
    where
      by_test : (x : Bool) → cond x (after_promise members me view b q (n ∷ counted) (join joined votes)) (nothing view) ≡ turned view (cond x (turn.after_promise members me b q (n ∷ counted) (join joined votes)) (turn.stays (Preparing c place counted joined)))
      by_test true = after_so b q (n ∷ counted) (join joined votes)
      by_test false = stays (Preparing c place counted joined) is

  -- what a turn that may be declined leaves of a view
  abbrev pub turned_or : Result Turn Fault → Result Outcome Fault
  turned_or (Ok t) = Ok (turned view t)
  turned_or (Err fault) = Err fault

  pub offer_so : (role : Role) (v : List ℕ) → offer members me view role v ≡ turned_or (turn.offer members me role v)
  offer_so Idle v = refl
  offer_so (Preparing b q counted joined) v = refl
  offer_so (Leading b next) v = by_test (nat_lt longest_value (length v)) (nat_lt most_places next)
    where
      by_test : (x y : Bool) → cond x (Err Fault.ValueTooLong) (cond y (Err Fault.LogFull) (Ok (sends (record view { role = Leading b (next + 1) }) (to_all members me (Accept b next v)))))
          ≡ turned_or (cond x (Err Fault.ValueTooLong) (cond y (Err Fault.LogFull) (Ok (record { role = Leading b (next + 1); letters = to_all members me (Accept b next v) }))))
      by_test true y = refl
      by_test false true = refl
      by_test false false = refl

  -- an offer is declined by faults of its own alone
  pub never_stops : (role : Role) (v : List ℕ) → StopsTurn (turn.offer members me role v) → ⊥
  never_stops Idle v stops = stops
  never_stops (Preparing b q counted joined) v stops = stops
  never_stops (Leading b next) v stops = by_test (nat_lt longest_value (length v)) (nat_lt most_places next) stops
    where
      by_test : (x y : Bool) → StopsTurn (cond {A = Result Turn Fault} x (Err Fault.ValueTooLong) (cond y (Err Fault.LogFull) (Ok (record { role = Leading b (next + 1); letters = to_all members me (Accept b next v) })))) → ⊥
      by_test true y stops = stops
      by_test false true stops = stops
      by_test false false stops = stops

-- the votes of a promise that is heeded are in the log
pub all_in_log : (b q : ℕ) (votes : List (ℕ × Cast)) → are_votes b q votes ≡ true → in_log votes ≡ votes
all_in_log b q [] are = refl
all_in_log b q (vote ∷ votes) are =
    let all = and_parts (nat_le q vote.0 && is_place vote.0 && is_value vote.1.value && nat_lt vote.1.ballot b) (are_votes b (vote.0 + 1) votes) are in
    let three = and_parts (nat_le q vote.0 && is_place vote.0 && is_value vote.1.value) (nat_lt vote.1.ballot b) all.0 in
    let two = and_parts (nat_le q vote.0 && is_place vote.0) (is_value vote.1.value) three.0 in
    let place = and_parts (nat_le q vote.0) (is_place vote.0) two.0 in
    let within = and_parts (nat_lt 0 vote.0) (nat_le vote.0 most_places) place.1 in
    ap (λ x. cond x (vote ∷ in_log votes) (in_log votes)) within.1 ∙ ap (λ r. vote ∷ r) (all_in_log b (vote.0 + 1) votes all.1)
