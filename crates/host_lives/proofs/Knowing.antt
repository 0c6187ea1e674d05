-- What a host took up, its nodes had learned.
use Rattle.std.proofs.Common.{◌≡◌, ◌⊎◌, inl, inr, ℕ, zero, suc, ◌+◌, ◌≤◌, List, [], ◌∷◌, ◌++◌, length}
use Rattle.std.proofs.Common.{refl}
use Rattle.std.proofs.Common.{sym, ap, subst, ◌∙◌, arith, Some, slice_get}
use Rattle.std.proofs.lemmas.Option.{slice_get_within}
use Rattle.ballots.proofs.Callers.{at_in}
use Rattle.epoch_runs.specs.Runs.{AreOfRuns, HadLearned, HadLearnedAll, HasLearned, IsOfRun}
use Rattle.hosts.specs.Views.{HostView, TakesUp, known, learned_at, number, with_more}
use Rattle.network_script.proofs.Callers.{along_joins, get_behind, get_front}
use Rattle.network_script.specs.Next.{Goes, Next}
use Rattle.network_script.specs.World.{Written}
use Rattle.node.specs.View.{Standing}
use Rattle.node.specs.View.Standing.{Running, Stopped}
use Rattle.seats.specs.declared.answer.Answer.{Answer}
use Rattle.world_events.specs.declared.event.Event.{Event}
use Rattle.host_lives.proofs.Lists.{get_parts}

-- a world goes on to another by some events
abbrev pub GoesOn : ℕ → Written → Written → Type 0
GoesOn members w w' = (script : List Event) × (report : List Answer) × Goes members w script report w'

-- nodes had learned these values of epochs 1, 2 and so on
abbrev pub Knows : (members : ℕ) → (ℕ → Written) → List (List (List ℕ)) → Type 0
Knows members ws cs = (e : ℕ) (c : List (List ℕ)) → slice_get cs e ≡ Some c → HadLearnedAll members (ws (e + 1)) c

learned_on : (members : ℕ) (w w' : Written) (p : ℕ) (v : List ℕ) → GoesOn members w w' → HadLearned members w p v → HadLearned members w' p v
learned_on members w w' p v (script, report, goes) had = record {
  node = had.node;
  mid = had.mid;
  passes = record {
    script = had.passes.script;
    report = had.passes.report;
    came = had.passes.came;
    rest = had.passes.rest ++ script;
    answers = had.passes.answers ++ report;
    went = along_joins (Next members) had.mid w w' had.passes.rest script had.passes.answers report had.passes.went goes;
  };
  view = had.view;
  there = had.there;
  learned = had.learned;
}

pub knows_on : (members : ℕ) (ws ws' : ℕ → Written) (cs : List (List (List ℕ))) → ((e : ℕ) → GoesOn members (ws e) (ws' e)) → Knows members ws cs → Knows members ws' cs
knows_on members ws ws' cs on knows e c is i v at = learned_on members (ws (e + 1)) (ws' (e + 1)) (i + 1) v (on (e + 1)) (knows e c is i v at)

-- what it learned now
learned_now : (members k : ℕ) (w : Written) (s : Standing) (p : ℕ) (x : List ℕ) → IsOfRun members w → slice_get w.nodes k ≡ Some s → learned_at s p ≡ Some x → HadLearned members w p x
learned_now members k w (Running view) p x run at is = record {
  node = k;
  mid = w;
  passes = record { script = run.script; report = run.report; came = run.run; rest = []; answers = []; went = refl };
  view = view;
  there = at;
  learned = at_in view.tally.learned p x is;
}
learned_now members k w (Stopped c doubt) p x run at is = absurd (cc (is))

module _ (members : ℕ) (ws : ℕ → Written) where
  pub knows_push : (cs : List (List (List ℕ))) (c : List (List ℕ)) → Knows members ws cs → HadLearnedAll members (ws (length cs + 1)) c → Knows members ws (cs ++ c ∷ [])
  knows_push cs c knows last e d is = by (get_parts cs (c ∷ []) e d is)
    where
      by : (slice_get cs e ≡ Some d) ⊎ ((j : ℕ) × (e ≡ length cs + j) × (slice_get (c ∷ []) j ≡ Some d)) → HadLearnedAll members (ws (e + 1)) d
      by (inl front) = knows e d front
      by (inr (zero, there, at)) =
          let same : c ≡ d = cc (at) in
          let epoch : length cs ≡ e = omega arith in
          subst (λ (n : ℕ). HadLearnedAll members (ws (n + 1)) d) epoch (subst (λ (x : List (List ℕ)). HadLearnedAll members (ws (length cs + 1)) x) same last)
      by (inr (suc j, there, at)) = absurd (cc (at))

  pub knows_front : (cs ds : List (List (List ℕ))) → Knows members ws (cs ++ ds) → Knows members ws cs
  knows_front cs ds knows e c is = knows e c (get_front cs ds e (slice_get_within cs e c is) ∙ is)

  pub knows_last : (cs : List (List (List ℕ))) (c : List (List ℕ)) → Knows members ws (cs ++ c ∷ []) → HadLearnedAll members (ws (length cs + 1)) c
  knows_last cs c knows = knows (length cs) c (get_behind cs (c ∷ []) 0 (length cs) (omega arith))

  pub knows_none : HadLearnedAll members (ws 1) []
  knows_none i v at = absurd (cc (at))

  -- it takes up more of its own epoch
  pub knows_more : (k places : ℕ) (v : HostView) (more : List (List ℕ)) → IsOfRun members (ws (number v)) → slice_get (ws (number v)).nodes k ≡ Some (v.nodes (number v))
      → TakesUp places v more → Knows members ws (known v) → Knows members ws (known (with_more v more))
  knows_more k places v more run at takes knows = knows_push v.passed (v.own ++ more) (knows_front v.passed (v.own ∷ []) knows) (λ i x is. by i x (get_parts v.own more i x is))
    where
      by : (i : ℕ) (x : List ℕ) → (slice_get v.own i ≡ Some x) ⊎ ((j : ℕ) × (i ≡ length v.own + j) × (slice_get more j ≡ Some x)) → HadLearned members (ws (number v)) (i + 1) x
      by i x (inl own) = knows_last v.passed v.own knows i x own
      by i x (inr (j, there, here)) =
          let place : length v.own + j + 1 ≡ i + 1 = omega arith in
          subst (λ (p : ℕ). HadLearned members (ws (number v)) p x) place
          (learned_now members k (ws (number v)) (v.nodes (number v)) (length v.own + j + 1) x run at (takes.learned j x here))

-- the worlds of so many epochs, from this one on
abbrev pub worlds_of : ℕ → ℕ → (ℕ → Written) → List Written
worlds_of zero e ws = []
worlds_of (suc n) e ws = ws e ∷ worlds_of n (e + 1) ws

pub worlds_count : (n e : ℕ) (ws : ℕ → Written) → length (worlds_of n e ws) ≡ n
worlds_count zero e ws = refl
worlds_count (suc n) e ws = ap (λ m. suc m) (worlds_count n (e + 1) ws)

pub world_at : (n e : ℕ) (ws : ℕ → Written) (i : ℕ) (w : Written) → slice_get (worlds_of n e ws) i ≡ Some w → w ≡ ws (i + e)
world_at zero e ws i w is = absurd (cc (is))
world_at (suc n) e ws zero w is = let same : ws e ≡ w = cc (is) in let first : e ≡ zero + e = omega arith in sym same ∙ ap ws first
world_at (suc n) e ws (suc i) w is = let place : i + (e + 1) ≡ suc i + e = omega arith in world_at n (e + 1) ws i w is ∙ ap ws place

pub worlds_are : (members n e : ℕ) (ws : ℕ → Written) → ((e : ℕ) → IsOfRun members (ws e)) → AreOfRuns members (worlds_of n e ws)
worlds_are members zero e ws each = tt
worlds_are members (suc n) e ws each = (each e, worlds_are members n (e + 1) ws each)

pub worlds_know : (members n e : ℕ) (ws : ℕ → Written) (cs : List (List (List ℕ))) → length cs ≤ n
    → ((i : ℕ) (c : List (List ℕ)) → slice_get cs i ≡ Some c → HadLearnedAll members (ws (i + e)) c) → HasLearned members (worlds_of n e ws) cs
worlds_know members n e ws [] few knows = tt
worlds_know members zero e ws (c ∷ cs) few knows = absurd (omega (arith, few))
worlds_know members (suc n) e ws (c ∷ cs) few knows =
    let first : zero + e ≡ e = omega arith in (
      subst (λ (m : ℕ). HadLearnedAll members (ws m) c) first (knows zero c refl),
      worlds_know members n (e + 1) ws cs (omega (arith, few)) (λ i d is.
          let place : suc i + e ≡ i + (e + 1) = omega arith in
          subst (λ (m : ℕ). HadLearnedAll members (ws m) d) place (knows (suc i) d is)),
    )
