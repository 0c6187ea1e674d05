-- A host begins again: what this does to the worlds of epochs.
use Rattle.std.proofs.Common.{◌≡◌, inl, inr, ℕ, ◌+◌, ◌<◌, ◌≤◌, List, [], ◌∷◌, length, refl, sym, subst, ◌∙◌, arith}
use Rattle.std.proofs.Common.{Option, None, Some, slice_get, Contains, length-append}
use Rattle.acceptor.specs.Content.{Content}
use Rattle.epochs.specs.Epochs.{AreFull}
use Rattle.hosts.specs.Views.{HostView, known, number}
use Rattle.network_script.specs.World.{Written}
use Rattle.seats.specs.declared.answer.Answer.TheVariants.{Finished}
use Rattle.world_events.specs.declared.event.Event.TheVariants as event
use Rattle.host_lives.specs.Beginning.{BeginsAgain, IsBehindAgain, IsGivenState, NewLife, begun}
use Rattle.host_lives.proofs.Happened.{Restarts, restarts}
use Rattle.host_lives.proofs.Knowing.{GoesOn, Knows, knows_front, knows_on, knows_push}
use Rattle.host_lives.proofs.Lists.{at_both, at_each, with_at}
use Rattle.host_lives.proofs.Released.{full_more, whole_own}
use Rattle.host_lives.proofs.Turned.{AreAt, IsAbove, came_on, known_state_on}

-- what it does, by which host k begins so
pub record IsBegun (members places k : ℕ) (ws : ℕ → Written) (contents : ℕ → ℕ → Content) (views : ℕ → HostView) (states : List (List ℕ)) (most : ℕ) (life : NewLife) : Type 0 where
  pub each : (e : ℕ) → Restarts members (ws e) k (life.contents e)
  pub are : AreAt members places (λ e. (each e).world) (with_at contents k life.contents) (with_at views k (begun places life)) states (most + 1)

-- epochs are full, so many at most, and nodes had learned their values
record AreKnown (members places : ℕ) (ws : ℕ → Written) (most : ℕ) (passed : List (List (List ℕ))) : Type 0 where
  full : AreFull places passed
  knows : Knows members ws passed
  few : length passed ≤ most

module _ (members places : ℕ) (ws : ℕ → Written) (contents : ℕ → ℕ → Content) (views : ℕ → HostView) (states : List (List ℕ)) (most : ℕ) (are : AreAt members places ws contents views states most) where
  -- the state that it was given was told
  abbrev pub state_given : (given : Option (List ℕ)) → ((bytes : List ℕ) → given ≡ Some bytes → Contains states bytes) → IsGivenState members places given
  state_given None give = tt
  state_given (Some bytes) give = (are.told bytes (give bytes refl)).state

  -- so the epochs behind which it begins again are known
  behind_known : (k : ℕ) → k < members → (given : Option (List ℕ)) (give : (bytes : List ℕ) → given ≡ Some bytes → Contains states bytes) (passed : List (List (List ℕ)))
      → IsBehindAgain members places (views k) given (state_given given give) passed → AreKnown members places ws most passed
  behind_known k within None give passed (inl same) = subst (AreKnown members places ws most) (sym same) (record {
    full = are.full k within;
    knows = knows_front members ws (views k).passed ((views k).own ∷ []) (are.knows k within);
    few = (let low = are.low k within in omega (arith, low));
  })
  behind_known k within None give passed (inr (is, same)) = subst (AreKnown members places ws most) (sym same) (record {
    full = full_more places (views k).passed (views k).own (are.full k within) (whole_own places (views k) is);
    knows = are.knows k within;
    few = (let low = are.low k within in omega (arith, low, length-append (views k).passed ((views k).own ∷ [])));
  })
  behind_known k within (Some bytes) give passed same =
      let its = are.told bytes (give bytes refl) in
      subst (AreKnown members places ws most) (sym same) (record { full = its.state.full; knows = its.knows; few = (let few = its.few in omega (arith, few)) })

pub begins : (members places k : ℕ) (ws : ℕ → Written) (contents : ℕ → ℕ → Content) (views : ℕ → HostView) (states : List (List ℕ)) (most : ℕ) → k < members
    → (are : AreAt members places ws contents views states most) (given : Option (List ℕ)) (give : (bytes : List ℕ) → given ≡ Some bytes → Contains states bytes) (life : NewLife)
    → BeginsAgain members places (views k) given (state_given members places ws contents views states most are given give) life → IsBegun members places k ws contents views states most life
begins members places k ws contents views states most within are given give life again =
    let v' : HostView = begun places life in
    let known_so = behind_known members places ws contents views states most are k within given give life.passed again.behind in
    let each : (e : ℕ) → Restarts members (ws e) k (life.contents e) =
    λ e. restarts members (ws e) k ((views k).nodes e) (life.contents e) (are.nodes k within e) (again.left e) in
    let worlds : ℕ → Written = λ e. (each e).world in
    let on : (e : ℕ) → GoesOn members (ws e) (worlds e) =
    λ e. (event.Crash k ∷ event.Restart k ∷ [], (each e).answer ∷ Finished ∷ [], ((each e).mid, (each e).crashes, (worlds e, (each e).starts, refl))) in
    record {
      each = each;
      are = record {
        came = λ e. came_on members (ws e) (worlds e) (on e) (are.came e);
        nodes = at_each (λ j u. j < members → (e : ℕ) → slice_get (worlds e).nodes j ≡ Some (u.nodes e)) views k v' (λ lt e. (each e).here)
            (λ j other lt e. (each e).others j other ∙ are.nodes j lt e);
        knows = at_each (λ j u. j < members → Knows members worlds (known u)) views k v'
            (λ lt. knows_push members worlds life.passed [] (knows_on members ws worlds life.passed on known_so.knows) (λ i x at. absurd (cc (at))))
            (λ j other lt. knows_on members ws worlds (known (views j)) on (are.knows j lt));
        above = at_both (λ j c u. j < members → IsAbove c u) contents views k life.contents v' (λ lt e far. refl) (λ j other. are.above j);
        full = at_each (λ j u. j < members → AreFull places u.passed) views k v' (λ lt. known_so.full) (λ j other. are.full j);
        low = at_each (λ j u. j < members → number u ≤ most + 1) views k v' (λ lt. (let few = known_so.few in omega (arith, few)))
            (λ j other lt. (let low = are.low j lt in omega (arith, low)));
        told = λ bytes has. known_state_on members places ws worlds most (most + 1) bytes on (omega arith) (are.told bytes has);
      };
    }
