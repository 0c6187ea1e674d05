-- A flow's due times and their numbers.
use Rattle.std.proofs.Common.{◌≡◌, ℕ, ◌+◌, ◌*◌, ◌-◌, ◌/◌, ◌<◌, ◌≤◌, true, ap, ◌∙◌, sym, refl, arith}
use Rattle.std.proofs.Math.Nat.{mul-div_cancel, add-sub_cancel_left}
use Rattle.std.proofs.lemmas.Bool.{leb-true, and_parts}
use Rattle.flow_state.specs.declared.flow.FlowKind.{FlowKind}
use Rattle.flow_state.specs.declared.flow.FlowKind.TheVariants.{BestEffort, Ugs, Poll, Station, Initial}
use Rattle.flow_state.specs.Limits.{is_good_kind, is_size, is_schedule, due_time, due_index, IsDueTime}

pub some_interval : (interval jitter base : ℕ) → is_schedule interval jitter base ≡ true → 0 < interval
some_interval interval jitter base good = let least : 1 ≤ interval = leb-true 1 interval (and_parts _ _ (and_parts _ _ (and_parts _ _ good).0).0).0 in omega arith

pub number_is : (base interval i : ℕ) → 0 < interval → (base + i * interval - base) / interval ≡ i
number_is base interval i some = ap (λ n. n / interval) (add-sub_cancel_left base (i * interval)) ∙ mul-div_cancel i some

-- due time number i of a flow within the limits has the number i, where it has due times
again : (kind : FlowKind) (i : ℕ) → is_good_kind kind ≡ true → due_time kind (due_index kind (due_time kind i)) ≡ due_time kind i
again (BestEffort priority) i good = refl
again (Ugs size interval jitter base) i good = ap (λ n. base + n * interval) (number_is base interval i (some_interval interval jitter base (and_parts (is_size size) _ good).1))
again (Poll interval jitter base) i good = ap (λ n. base + n * interval) (number_is base interval i (some_interval interval jitter base good))
again (Station size interval jitter base) i good = ap (λ n. base + n * interval) (number_is base interval i (some_interval interval jitter base (and_parts (is_size size) _ good).1))
again (Initial size interval jitter base) i good = ap (λ n. base + n * interval) (number_is base interval i (some_interval interval jitter base (and_parts (is_size size) _ good).1))

-- a due time is the one that its number names
pub due_named : (kind : FlowKind) (due : ℕ) → is_good_kind kind ≡ true → IsDueTime kind due → due ≡ due_time kind (due_index kind due)
due_named kind due good is = is.1 ∙ sym (again kind is.0 good) ∙ ap (λ d. due_time kind (due_index kind d)) (sym is.1)

-- the first due time has the number 0
pub first_index : (kind : FlowKind) → is_good_kind kind ≡ true → due_index kind (due_time kind 0) ≡ 0
first_index (BestEffort priority) good = refl
first_index (Ugs size interval jitter base) good = number_is base interval 0 (some_interval interval jitter base (and_parts (is_size size) _ good).1)
first_index (Poll interval jitter base) good = number_is base interval 0 (some_interval interval jitter base good)
first_index (Station size interval jitter base) good = number_is base interval 0 (some_interval interval jitter base (and_parts (is_size size) _ good).1)
first_index (Initial size interval jitter base) good = number_is base interval 0 (some_interval interval jitter base (and_parts (is_size size) _ good).1)
