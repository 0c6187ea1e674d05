-- The counts of failures, event by event.
use Rattle.std.proofs.Common.{◌≡◌, ◌≤◌, ◌+◌, ◌-◌, ◌^◌, ◌⊎◌, inl, inr, ℕ, List, [], ◌∷◌, Option, Some, None, Bool, true}
use Rattle.std.proofs.Common.{false, slice_get, slice_set, refl, sym, ap, ◌∙◌, subst, arith, ◌&&◌, if◌then◌else◌}
use Rattle.std.proofs.lemmas.Bool.Decides.{eqb_tells}
use Rattle.std.proofs.lemmas.Bool.{cases_lt, and_parts, false≢true}
use Rattle.std.proofs.lemmas.Option.{slice_get_within}
use Rattle.std.proofs.Math.Nat.{min-eq_left, min-eq_right}
use Rattle.acceptor.specs.Faults.{HasRisen}
use Rattle.node.specs.Calls.{Who}
use Rattle.proposer.specs.declared.fault.NodeFault.TheVariants.{StoreRefused, Down}
use Rattle.seats.specs.Acts.{TellsStoreOf}
use Rattle.seats.specs.Moves.{Ask}
use Rattle.seats.specs.Moves.Ask.{Restart}
use Rattle.seats.specs.declared.answer.Answer.TheVariants.{Finished, Fault}
use Rattle.world_events.specs.declared.event.Event.{Event}
use Rattle.world_events.specs.declared.event.Event.TheVariants as event
use Rattle.seats.specs.declared.answer.Answer.{Answer}
use Rattle.network_script.proofs.Lists.{get_same, get_other, set_again}
use Rattle.network_script.specs.Counts.{Counts, CountNext, CountRun, called_by, is_node, faults_of, FewFaults}
use Rattle.seats.specs.StoreFaults.{is_store_fault}

-- where the answer is no fault of its store, a node's count stays
pub quiet_answer : (answer : Answer) (ask : Ask) (old new : Who) → TellsStoreOf answer ask old new → is_store_fault answer ≡ false → new.failures ≡ old.failures
quiet_answer (Fault StoreRefused) ask old new tells quiet = absurd (false≢true (sym quiet))
quiet_answer (Fault Down) ask old new tells quiet = absurd (false≢true (sym quiet))
quiet_answer (Fault declined) Restart old new tells quiet = tells.0
quiet_answer (Fault declined) ask old new tells quiet = tells.0
quiet_answer Finished Restart old new tells quiet = tells.0
quiet_answer other ask old new tells quiet = tells.0

-- nothing was counted
pub count_still : (c : Counts) (event : Event) (answer : Answer) → is_store_fault answer ≡ false → CountNext c event answer c
count_still c event answer quiet = record {
  letters = λ i n at. at;
  grow = λ k before at. (before, at, omega arith);
  cause = λ loud. absurd (false≢true (sym quiet ∙ loud));
  still = λ calm. refl;
}

-- node k's count went on
pub count_one : (old new : Counts) (event : Event) (answer : Answer) (k before after : ℕ)
    → ((i n : ℕ) → slice_get old.addressees i ≡ Some n → slice_get new.addressees i ≡ Some n)
    → slice_get old.failures k ≡ Some before → new.failures ≡ slice_set old.failures k after → before ≤ after
    → called_by old.addressees event ≡ Some k → (is_store_fault answer ≡ true → HasRisen before after) → (is_store_fault answer ≡ false → after ≡ before)
    → CountNext old event answer new
count_one old new event answer k before after letters at is le called loud quiet =
    let there : slice_get new.failures k ≡ Some after = ap (λ fs. slice_get fs k) is ∙ get_same old.failures k after (slice_get_within old.failures k before at) in
    record {
      letters = letters;
      grow = λ j b at_j. elim (eqb_tells k j) [
        | inl (_, same) ↦
            let there_j : slice_get new.failures j ≡ Some after = subst (λ (m : ℕ). slice_get new.failures m ≡ Some after) same there in
            let at_k : slice_get old.failures j ≡ Some before = subst (λ (m : ℕ). slice_get old.failures m ≡ Some before) same at in
            let b_is : b ≡ before = cc in
            (after, there_j, rw b_is le)
        | inr (_, apart) ↦ (b, ap (λ fs. slice_get fs j) is ∙ (get_other old.failures k j after apart ∙ at_j), omega arith)
      ];
      cause = λ fault. (k, before, after, called, at, there, loud fault);
      still = λ calm. is ∙ (ap (λ n. slice_set old.failures k n) (quiet calm) ∙ set_again old.failures k before at);
    }

-- letters stay through a run
run_letters : (old new : Counts) (events : List Event) (answers : List Answer) → CountRun old events answers new → (i n : ℕ) → slice_get old.addressees i ≡ Some n → slice_get new.addressees i ≡ Some n
run_letters old new [] [] run i n at = ap (λ (c : Counts). slice_get c.addressees i) run ∙ at
run_letters old new (event ∷ events) (answer ∷ answers) (mid, next, run) i n at = run_letters mid new events answers run i n (next.letters i n at)
run_letters old new events answers run i n at = absurd run

called_more : (to to' : List ℕ) (event : Event) (k : ℕ) → ((i n : ℕ) → slice_get to i ≡ Some n → slice_get to' i ≡ Some n) → called_by to event ≡ Some k → called_by to' event ≡ Some k
called_more to to' (event.Deliver i) k more at = more i k at
called_more to to' (event.DeliverThenCrash i) k more at = more i k at
called_more to to' by_number k more at = at

node_is : (k : ℕ) (o : Option ℕ) (n : ℕ) → is_node k o ≡ true → o ≡ Some n → n ≡ k
node_is k None n yes_it_is is = cc
node_is k (Some m) n yes_it_is is =
    let same : m ≡ k = elim (eqb_tells m k) [ inl (_, e) ↦ e | inr (test, _) ↦ absurd (false≢true (sym test ∙ yes_it_is)) ] in
    cc

-- one more event counts at most one, and only where node k's count rose
abbrev Counted : ℕ → ℕ → ℕ → Type 0
Counted before more after = (2 ^ 64 - 1 ≤ after) ⊎ (before + more ≤ after)

risen : (before mid : ℕ) → HasRisen before mid → (before + 1 ≤ mid) ⊎ (2 ^ 64 - 1 ≤ mid)
risen before mid rose = elim (cases_lt (before + 1) (2 ^ 64 - 1)) [
  | inl less ↦
      let under : before + 1 ≤ 2 ^ 64 - 1 = omega (arith, less) in
      inl (rw (min-eq_left under) at rose)
  | inr last ↦ inr (rw (min-eq_right last) at rose)
]

one_event : (k before mid after rest : ℕ) (test : Bool) → before ≤ mid → mid ≤ after → (test ≡ true → HasRisen before mid) → Counted mid rest after → Counted before ((if test then 1 else 0) + rest) after
one_event k before mid after rest test le le' rose (inl full) = inl full
one_event k before mid after rest false le le' rose (inr sum) = inr (omega arith)
one_event k before mid after rest true le le' rose (inr sum) = elim (risen before mid (rose refl)) [ inl less ↦ inr (omega arith) | inr last ↦ inl (omega arith) ]

run_grow : (old new : Counts) (events : List Event) (answers : List Answer) → CountRun old events answers new → (k before : ℕ) → slice_get old.failures k ≡ Some before → (after : ℕ) × (slice_get new.failures k ≡ Some after) × (before ≤ after) × Counted before (faults_of k new.addressees events answers) after
run_grow old new [] [] run k before at = (before, ap (λ (c : Counts). slice_get c.failures k) run ∙ at, omega arith, inr (omega arith))
run_grow old new (event ∷ events) (answer ∷ answers) (mid, next, run) k before at =
    let grown = next.grow k before at in
    let later = run_grow mid new events answers run k grown.0 grown.1 in
    let letters = run_letters old new (event ∷ events) (answer ∷ answers) (mid, next, run) in
    let rose : (is_store_fault answer && is_node k (called_by new.addressees event)) ≡ true → HasRisen before grown.0 = λ test.
    let b = and_parts (is_store_fault answer) _ test in
    let why = next.cause b.0 in
    let same : why.0 ≡ k = node_is k (called_by new.addressees event) why.0 b.1 (called_more old.addressees new.addressees event why.0 letters why.3) in
    let at_old : slice_get old.failures k ≡ Some why.1 = subst (λ (n : ℕ). slice_get old.failures n ≡ Some why.1) same why.4 in
    let at_mid : slice_get mid.failures k ≡ Some why.2 = subst (λ (n : ℕ). slice_get mid.failures n ≡ Some why.2) same why.5 in
    let before_is : why.1 ≡ before = cc in
    let after_is : why.2 ≡ grown.0 = cc in
    subst (λ (b : ℕ). HasRisen b grown.0) before_is (subst (λ (a : ℕ). HasRisen why.1 a) after_is why.6) in
    (later.0, later.1, omega arith, one_event k before grown.0 later.0 (faults_of k new.addressees events answers) _ grown.2 later.2 rose later.3)
run_grow old new events answers run k before at = absurd run

pub few_faults : FewFaults
few_faults old new events answers run k before at =
    let grown = run_grow old new events answers run k before at in
    (grown.0, grown.1, grown.3)
