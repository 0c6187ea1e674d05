-- Hosts that live once: nothing happens but that they reply.
use Rattle.std.proofs.Common.{◌≡◌, ◌≢◌, ℕ, zero, suc, ◌<◌, Bool, true, false, cond, eqb, List, [], ◌∷◌, map, filter, refl, sym, ap}
use Rattle.std.proofs.Common.{subst, All, Option, Some, slice_get}
use Rattle.std.proofs.lemmas.List.Elements.{All-cons, All-head, All-nil, All-tail}
use Rattle.acceptor.specs.Content.{Content}
use Rattle.hosts.specs.Views.{HostView}
use Rattle.host_lives.specs.Beginning.{IsLifeFrom, LivesFrom, new_host, nothing}
use Rattle.host_lives.specs.Lives.{HostsAreOneLog, HostsHaveLived, HostsHaveLivedOnce, HostsOfOneLifeAreOneLog}
use Rattle.host_lives.specs.Turns.{AllCome, AllTold, HostEvent, HostTurn, events_of, host_of, replied}
use Rattle.host_lives.specs.Turns.HostEvent.{Replied, Began}

-- all that happened is that these were replied to
abbrev pub all_replied : List HostTurn → List HostEvent
all_replied turns = map (λ t. Replied t) turns

replied_again : (turns : List HostTurn) → replied (all_replied turns) ≡ turns
replied_again [] = refl
replied_again (t ∷ turns) = ap (λ (ts : List HostTurn). t ∷ ts) (replied_again turns)

named_so : (members : ℕ) (turns : List HostTurn) → All (λ t. t.host < members) turns → All (λ h. host_of h < members) (all_replied turns)
named_so members [] all = All-nil (λ (h : HostEvent). host_of h < members)
named_so members (t ∷ turns) all =
    All-cons (λ (h : HostEvent). host_of h < members) (Replied t) (all_replied turns) (All-head (λ (x : HostTurn). x.host < members) t turns all)
    (named_so members turns (All-tail (λ (x : HostTurn). x.host < members) t turns all))

-- what happened at one host are its turns
events_are : (k : ℕ) (turns : List HostTurn) → events_of k (all_replied turns) ≡ all_replied (filter (λ t. eqb t.host k) turns)
events_are k [] = refl
events_are k (t ∷ turns) = by (eqb t.host k) (events_of k (all_replied turns)) (filter (λ x. eqb x.host k) turns) (events_are k turns)
  where
    by : (b : Bool) (hs : List HostEvent) (ts : List HostTurn) → hs ≡ all_replied ts → cond b (Replied t ∷ hs) hs ≡ all_replied (cond b (t ∷ ts) ts)
    by true hs ts same = ap (λ (xs : List HostEvent). Replied t ∷ xs) same
    by false hs ts same = same

-- a host that replies so lives so, over whatever its nodes began
pub lives_on : (members me places : ℕ) (contents : ℕ → Content) (v : HostView) (turns : List HostTurn) → IsLifeFrom members me places contents v (map (λ t. (t.line, t.reply)) turns)
    → LivesFrom members me places contents v (all_replied turns)
lives_on members me places contents v [] lives = tt
lives_on members me places contents v (t ∷ turns) lives = λ past. let one = lives past in (one.0, one.1, lives_on members me places contents one.0 turns one.2)

none_began : (turns : List HostTurn) (i k : ℕ) (given : Option (List ℕ)) → slice_get (all_replied turns) i ≢ Some (Began k given)
none_began [] i k given is = cc (is)
none_began (t ∷ turns) zero k given is = cc (is)
none_began (t ∷ turns) (suc i) k given is = none_began turns i k given is

lived_once : (members places : ℕ) (turns : List HostTurn) → HostsHaveLivedOnce members places turns → HostsHaveLived members places (all_replied turns)
lived_once members places turns lived = record {
  named = named_so members turns lived.named;
  lived = λ k within.
      subst (λ (hs : List HostEvent). LivesFrom members k places nothing new_host hs) (sym (events_are k turns))
      (lives_on members k places nothing new_host (filter (λ t. eqb t.host k) turns) (lived.lived k within));
  come = subst AllCome (sym (replied_again turns)) lived.come;
  told = subst AllTold (sym (replied_again turns)) lived.told;
  given = λ i k bytes is. absurd (none_began turns i k (Some bytes) is);
}

pub once : HostsAreOneLog → HostsOfOneLifeAreOneLog
once one members places turns lived = one members places (all_replied turns) (lived_once members places turns lived)
