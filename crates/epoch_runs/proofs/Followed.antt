-- Epochs are one log.
use Rattle.std.proofs.Common.{◌≡◌, ℕ, zero, suc, ◌+◌, List, [], ◌∷◌, length, map, refl, Some, slice_get}
use Rattle.ballots.specs.Voting.{IsChosen}
use Rattle.grant_machine.proofs.Callers.{maps_are_disjoint, owners_are_one}
use Rattle.command_log.specs.Reading.{command_of}
use Rattle.epochs.specs.Epochs.{AreBeginnings, IsBeginning, values_of}
use Rattle.epochs.proofs.Callers.{outputs_begin, values_begin}
use Rattle.network_script.specs.World.{Written}
use Rattle.network_script.proofs.Callers.{headline, held_owned}
use Rattle.epoch_runs.specs.Runs.{AreOfRuns, AreSchedules, EpochsFollowOneLog, HasLearned}

schedules_of : (members : ℕ) (ws : List Written) → AreOfRuns members ws → (cs : List (List (List ℕ))) × AreSchedules members ws cs
schedules_of members [] reached = ([], tt)
schedules_of members (w ∷ ws) reached =
    let first = headline members [] reached.0.script reached.0.report w reached.0.run in
    let rest = schedules_of members ws reached.1 in
    let each : AreSchedules members (w ∷ ws) (first.0 ∷ rest.0) = (first.1, rest.1) in
    (first.0 ∷ rest.0, each)

-- a list that agrees with another wherever both have an element, and has none behind its end, is its beginning
begins : (xs ys : List (List ℕ)) → ((k : ℕ) (x y : List ℕ) → slice_get xs k ≡ Some x → slice_get ys k ≡ Some y → x ≡ y) → ((x : List ℕ) → slice_get xs (length ys) ≡ Some x → ⊥) → IsBeginning xs ys
begins [] ys same past = (ys, refl)
begins (x ∷ xs) [] same past = absurd (past x refl)
begins (x ∷ xs) (y ∷ ys) same past =
    let rest = begins xs ys (λ k. same (suc k)) past in
    let first : x ≡ y = same zero x y refl refl in
    (rest.0, λ i. first i ∷ rest.1 i)

-- what nodes learned in each epoch is a beginning of what is chosen there
learned_begin : (members : ℕ) (ws : List Written) (cs known : List (List (List ℕ))) → AreSchedules members ws cs → HasLearned members ws known → AreBeginnings known cs
learned_begin members ws cs [] each has = tt
learned_begin members [] cs (x ∷ known) each has = absurd has
learned_begin members (w ∷ ws) [] (x ∷ known) each has = absurd each
learned_begin members (w ∷ ws) (c ∷ cs) (x ∷ known) each has = (
  begins x c (λ i v v' is also. each.0.chosen (i + 1) v v' (chosen_at i v is) (each.0.schedule.chosen i v' also)) (λ v is. each.0.schedule.whole v (chosen_at (length c) v is)),
  learned_begin members ws cs known each.1 has.1,
)
  where
    chosen_at : (i : ℕ) (v : List ℕ) → slice_get x i ≡ Some v → IsChosen members w.history (i + 1) v
    chosen_at i v is = let had = has.0 i v is in each.0.learned had.mid had.passes had.node had.view (i + 1) v had.there had.learned

pub epochs_follow : EpochsFollowOneLog
epochs_follow members places ws reached =
    let s = schedules_of members ws reached in
    let begin : (known : List (List (List ℕ))) → HasLearned members ws known → IsBeginning (values_of places known) (values_of places s.0) =
    λ known has. values_begin places known s.0 (learned_begin members ws s.0 known s.1 has) in (
      s.0,
      record {
        each = s.1;
        learned = begin;
        outputs = λ known has i o is. outputs_begin (values_of places known) (values_of places s.0) (begin known has) i o is;
        covers = λ i j ch m start len start' len' bytes bytes' a b within within'.
            maps_are_disjoint (map command_of (values_of places s.0)) i j ch m start len start' len' bytes bytes' a b within within';
        owners = λ ch m id other a b. owners_are_one (map command_of (values_of places s.0)) ch m id other a b;
        held = λ id hearings heard ch m sid held. held_owned (map command_of (values_of places s.0)) id hearings ch m sid held.0 heard held.1;
      },
    )
