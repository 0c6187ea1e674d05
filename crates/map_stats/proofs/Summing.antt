-- Sums over rows, one row after another.
use Rattle.std.proofs.Common.{◌≡◌, ℕ, ◌+◌, ◌==◌, true, false, cond, List, [], ◌∷◌, ◌++◌, length, Option, Some, None}
use Rattle.std.proofs.Common.{unwrap_or, refl, sym, ap, ◌∙◌, append_assoc, append-nil, add_assoc, add-zero, zero-add}
use Rattle.std.proofs.Common.{arith}
use Rattle.std.proofs.lemmas.List.Sums.{sum_by-cons}
use Rattle.std.specs.List.{flat_map, fold, sum_by}
use Rattle.plan_account.specs.declared.past.Fate.{Fate}
use Rattle.plan_account.specs.declared.past.Fate.TheVariants as fates
use Rattle.plan_account.specs.declared.past.LeaseRow.{LeaseRow}
use Rattle.plan_account.specs.declared.past.RequestRow.{RequestRow}
use Rattle.map_stats.specs.Laws.{SumsAreOfRows, delay_in, delay_of, leases_of, missed_in, requests_of, windows_in}
use Rattle.map_stats.specs.Sums.{Sums, lease_asked, lease_step, lease_told, no_sums, request_step, sums_at}
use Rattle.map_stats.specs.Sums.{with_fate, with_lease, with_request}

abbrev given : Option Sums → Sums
given o = unwrap_or o no_sums

-- one sum after some requests: more asked, more delays, as many windows
record After (rs : List RequestRow) (s t : Sums) : Type 0 where
  asked : t.asked ≡ s.asked + length rs
  delays : t.delays ≡ s.delays ++ flat_map delay_of rs
  windows : t.windows ≡ s.windows
  missed : t.missed ≡ s.missed

fate_asked : (s : Sums) (r : RequestRow) (fate : Fate) → (with_fate s r fate).asked ≡ s.asked + 1
fate_asked s r (fates.Waits why) = refl
fate_asked s r fates.Gone = refl
fate_asked s r (fates.Granted map start) = refl

fate_delays : (s : Sums) (r : RequestRow) (fate : Fate) → (with_fate s r fate).delays ≡ s.delays ++ delay_in r.sent fate
fate_delays s r (fates.Waits why) = sym (append-nil s.delays)
fate_delays s r fates.Gone = sym (append-nil s.delays)
fate_delays s r (fates.Granted map start) = refl

fate_windows : (s : Sums) (r : RequestRow) (fate : Fate) → (with_fate s r fate).windows ≡ s.windows
fate_windows s r (fates.Waits why) = refl
fate_windows s r fates.Gone = refl
fate_windows s r (fates.Granted map start) = refl

fate_missed : (s : Sums) (r : RequestRow) (fate : Fate) → (with_fate s r fate).missed ≡ s.missed
fate_missed s r (fates.Waits why) = refl
fate_missed s r fates.Gone = refl
fate_missed s r (fates.Granted map start) = refl

-- one more request before others
one_before : (r : RequestRow) (rs : List RequestRow) (s t : Sums) → After rs (with_request s r) t → After (r ∷ rs) s t
one_before r rs s t a = record {
  asked = (let one = fate_asked s r r.fate in let rest = a.asked in omega (arith, one, rest));
  delays = a.delays ∙ ap (λ (d : List ℕ). d ++ flat_map delay_of rs) (fate_delays s r r.fate) ∙ append_assoc s.delays (delay_of r) (flat_map delay_of rs);
  windows = a.windows ∙ fate_windows s r r.fate;
  missed = a.missed ∙ fate_missed s r r.fate;
}

after_requests : (q : ℕ) (rs : List RequestRow) (o : Option Sums) → After (requests_of q rs) (given o) (given (fold (request_step q) o rs))
after_requests q [] o = record { asked = sym (add-zero (given o).asked); delays = sym (append-nil (given o).delays); windows = refl; missed = refl }
after_requests q (r ∷ rs) o =
    elim (lease_asked r == q) as (λ b. After (cond b (r ∷ requests_of q rs) (requests_of q rs)) (given o) (given (fold (request_step q) (cond b (Some (with_request (given o) r)) o) rs))) [
      | true ↦ one_before r (requests_of q rs) (given o) _ (after_requests q rs (Some (with_request (given o) r)))
      | false ↦ after_requests q rs o
    ]

-- after some leases: as many requests, more windows
record Behind (ls : List LeaseRow) (s t : Sums) : Type 0 where
  asked : t.asked ≡ s.asked
  delays : t.delays ≡ s.delays
  windows : t.windows ≡ s.windows + sum_by windows_in ls
  missed : t.missed ≡ s.missed + sum_by missed_in ls

lease_before : (l : LeaseRow) (ls : List LeaseRow) (s t : Sums) → Behind ls (with_lease s l) t → Behind (l ∷ ls) s t
lease_before l ls s t a = record {
  asked = a.asked;
  delays = a.delays;
  windows = a.windows ∙ add_assoc s.windows l.windows (sum_by windows_in ls) ∙ ap (λ n. s.windows + n) (sym (sum_by-cons windows_in l ls));
  missed = a.missed ∙ add_assoc s.missed l.missed (sum_by missed_in ls) ∙ ap (λ n. s.missed + n) (sym (sum_by-cons missed_in l ls));
}

after_leases : (q : ℕ) (ls : List LeaseRow) (o : Option Sums) → Behind (leases_of q ls) (given o) (given (fold (lease_step q) o ls))
after_leases q [] o = record { asked = refl; delays = refl; windows = sym (add-zero (given o).windows); missed = sym (add-zero (given o).missed) }
after_leases q (l ∷ ls) o =
    elim (lease_told l == q) as (λ b. Behind (cond b (l ∷ leases_of q ls) (leases_of q ls)) (given o) (given (fold (lease_step q) (cond b (Some (with_lease (given o) l)) o) ls))) [
      | true ↦ lease_before l (leases_of q ls) (given o) _ (after_leases q ls (Some (with_lease (given o) l)))
      | false ↦ after_leases q ls o
    ]

pub sums_are_of_rows : SumsAreOfRows
sums_are_of_rows rs ls q s is =
    let first = after_requests q rs None in
    let then = after_leases q ls (fold (request_step q) None rs) in
    let same : given (sums_at rs ls q) ≡ s = ap given is in
    record {
      asked = ap (λ (t : Sums). t.asked) (sym same) ∙ then.asked ∙ first.asked ∙ zero-add (length (requests_of q rs));
      delays = ap (λ (t : Sums). t.delays) (sym same) ∙ then.delays ∙ first.delays;
      windows = ap (λ (t : Sums). t.windows) (sym same) ∙ then.windows ∙ ap (λ (n : ℕ). n + sum_by windows_in (leases_of q ls)) first.windows ∙ zero-add (sum_by windows_in (leases_of q ls));
      missed = ap (λ (t : Sums). t.missed) (sym same) ∙ then.missed ∙ ap (λ (n : ℕ). n + sum_by missed_in (leases_of q ls)) first.missed ∙ zero-add (sum_by missed_in (leases_of q ls));
    }
