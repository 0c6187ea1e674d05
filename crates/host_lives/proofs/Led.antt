-- All that happened at hosts, one after another: what it does to the worlds of epochs.
use Rattle.std.proofs.Common.{◌≡◌, ◌≢◌, ◌⊎◌, inl, inr, ⊎_elim, ℕ, zero, suc, ◌+◌, ◌<◌, ◌≤◌, true, cond}
use Rattle.std.proofs.Common.{List, []}
use Rattle.std.proofs.Common.{◌∷◌, ◌++◌, length, take, refl, sym, ap, subst, ◌∙◌, arith, append_assoc, All}
use Rattle.std.proofs.Common.{Option, Some, length-append}
use Rattle.std.proofs.Common.{slice_get, Contains}
use Rattle.std.proofs.lemmas.Bool.{eq-eqb}
use Rattle.std.proofs.lemmas.List.{append-nil}
use Rattle.std.proofs.lemmas.List.Elements.{All-head, All-tail, Contains-append_cases}
use Rattle.acceptor.specs.Content.{Content}
use Rattle.ballots.specs.declared.letters.Letter.{Letter}
use Rattle.flow_state.proofs.Callers.{at_contains, contains_at}
use Rattle.epochs.specs.Epochs.{outputs_over}
use Rattle.grant_machine.specs.declared.output.Output.{Output}
use Rattle.hosts.specs.Views.{HostView, known, number}
use Rattle.host_service.specs.Serving.{Gives}
use Rattle.host_service.specs.declared.reply.HostReply.TheVariants.{Joined}
use Rattle.map_release.specs.declared.numbered.Numbered.{Numbered}
use Rattle.network_script.proofs.Callers.{get_behind}
use Rattle.network_script.specs.Next.{Goes}
use Rattle.network_script.specs.World.{Written}
use Rattle.node_lines.specs.declared.request.Request.TheVariants as request
use Rattle.seats.specs.declared.acted.Acted.{Acted}
use Rattle.seats.specs.declared.answer.Answer.{Answer}
use Rattle.seats.specs.declared.answer.Answer.TheVariants.{Finished}
use Rattle.world_events.specs.declared.event.Event.{Event}
use Rattle.world_events.specs.declared.event.Event.TheVariants as event
use Rattle.host_lives.specs.Beginning.{LivesFrom, NewLife, begun}
use Rattle.host_lives.specs.Turns.{DoesIn, HostEvent, HostTurn, again_in, events_in, events_of, host_of, is_done_in}
use Rattle.host_lives.specs.Turns.{letters_in, letters_sent, outputs_in, outputs_printed, replied, states_in}
use Rattle.host_lives.specs.Turns.{states_told, told_again}
use Rattle.host_lives.specs.Turns.HostEvent.{Replied, Began}
use Rattle.host_lives.specs.Lives.{AreEvents, IsOutputOf}
use Rattle.host_lives.proofs.Begun.{IsBegun, begins, state_given}
use Rattle.host_lives.proofs.Happened.{Restarts}
use Rattle.host_lives.proofs.Knowing.{GoesOn, Knows, knows_on}
use Rattle.host_lives.proofs.Lists.{apart, at_both, at_each, at_one, with_at}
use Rattle.host_lives.proofs.Released.{state_from, turned}
use Rattle.host_lives.proofs.Turned.{AreAt, IsKnownState, IsStep, IsTold, IsTurned, known_state_on}

-- from a world of epoch e on, what happened are events
pub record Ran (members e : ℕ) (happened : List HostEvent) (w w' : Written) : Type 0 where
  pub script : List Event
  pub report : List Answer
  pub events : AreEvents e w.letters (events_in e happened) script report
  pub goes : Goes members w script report w'
  pub letters : w'.letters ≡ w.letters ++ letters_sent e (replied happened)

-- one turn, and then others
ran_on : (members e : ℕ) (t : HostTurn) (happened : List HostEvent) (w mid w' : Written) → IsStep members e t w mid → Ran members e happened mid w' → Ran members e (Replied t ∷ happened) w w'
ran_on members e t happened w mid w' (inl (none, nothing, same)) rest =
    let on : Ran members e happened w w' = subst (λ (x : Written). Ran members e happened x w') same rest in
    record {
      script = on.script;
      report = on.report;
      events = subst (λ b. AreEvents e w.letters (cond b (Replied t ∷ events_in e happened) (events_in e happened)) on.script on.report) (sym none) on.events;
      goes = on.goes;
      letters = on.letters ∙ ap (λ (ls : List Letter). w.letters ++ (ls ++ letters_sent e (replied happened))) (sym nothing);
    }
ran_on members e t happened w mid w' (inr (done, happening, answer, is, next, letters)) rest = record {
  script = happening ∷ rest.script;
  report = answer ∷ rest.report;
  events = subst (λ b. AreEvents e w.letters (cond b (Replied t ∷ events_in e happened) (events_in e happened)) (happening ∷ rest.script) (answer ∷ rest.report)) (sym done)
      (is, subst (λ (ls : List Letter). AreEvents e ls (events_in e happened) rest.script rest.report) letters rest.events);
  goes = (mid, next, rest.goes);
  letters = rest.letters ∙ ap (λ (ls : List Letter). ls ++ letters_sent e (replied happened)) letters ∙ append_assoc w.letters (letters_in e t.reply) (letters_sent e (replied happened));
}

-- a host began again, and then the rest
ran_again : (members e k : ℕ) (given : Option (List ℕ)) (c : Content) (happened : List HostEvent) (w w' : Written) (again : Restarts members w k c) → Ran members e happened again.world w'
    → Ran members e (Began k given ∷ happened) w w'
ran_again members e k given c happened w w' again rest = record {
  script = event.Crash k ∷ event.Restart k ∷ rest.script;
  report = again.answer ∷ Finished ∷ rest.report;
  events = (again.is, subst (λ (ls : List Letter). AreEvents e ls (events_in e happened) rest.script rest.report) again.letters rest.events);
  goes = (again.mid, again.crashes, (again.world, again.starts, rest.goes));
  letters = rest.letters ∙ ap (λ (ls : List Letter). ls ++ letters_sent e (replied happened)) again.letters;
}

-- an output is one of what a host knew, who knew so many epochs at most
pub record IsKnown (members places : ℕ) (ws : ℕ → Written) (most : ℕ) (x : Numbered) : Type 0 where
  pub values : List (List (List ℕ))
  pub knows : Knows members ws values
  pub few : length values ≤ most
  pub output : IsOutputOf places values x

-- so is one that is told again, and what a told state is behind
pub record IsKnownOutput (members places : ℕ) (ws : ℕ → Written) (most : ℕ) (o : Output) : Type 0 where
  pub values : List (List (List ℕ))
  pub knows : Knows members ws values
  pub few : length values ≤ most
  pub output : Contains (outputs_over places values) o

-- what happened at hosts, before which each host's epoch was this one at most
pub record AreTurned (members places : ℕ) (happened : List HostEvent) (ws : ℕ → Written) (most : ℕ) : Type 0 where
  pub worlds : ℕ → Written
  pub each : (e : ℕ) → Ran members e happened (ws e) (worlds e)
  pub printed : (x : Numbered) → Contains (outputs_printed (replied happened)) x → IsKnown members places worlds (most + length happened) x
  pub again : (o : Output) → Contains (told_again (replied happened)) o → IsKnownOutput members places worlds (most + length happened) o
  pub states : (bytes : List ℕ) → Contains (states_told (replied happened)) bytes → IsKnownState members places worlds (most + length happened) bytes
  pub whole : (t : HostTurn) (e : ℕ) → Contains (replied happened) t → is_done_in e t.reply ≡ true → (1 ≤ e) × (e ≤ most + length happened)

-- each letter that came in an epoch was sent before, or at an earlier one of these turns
abbrev pub ComeFrom : (ℕ → Written) → List HostTurn → Type 0
ComeFrom ws turns =
    (i : ℕ) (t : HostTurn) → slice_get turns i ≡ Some t → (e : ℕ) (l : Letter) (acted : Acted) → DoesIn t e (request.Letter l) acted
    → (l.to ≡ t.host) × Contains ((ws e).letters ++ letters_sent e (take i turns)) l

-- each state to which a host went is one of these, or was told at an earlier one of these turns
abbrev pub ToldFrom : List (List ℕ) → List HostTurn → Type 0
ToldFrom states turns =
    (i : ℕ) (t : HostTurn) → slice_get turns i ≡ Some t → (bytes : List ℕ) (epoch : ℕ) → Gives t.line bytes → t.reply ≡ Joined epoch
    → Contains (states ++ states_told (take i turns)) bytes

-- so is each behind which a host began again
abbrev pub GivenFrom : List (List ℕ) → List HostEvent → Type 0
GivenFrom states happened =
    (i k : ℕ) (bytes : List ℕ) → slice_get happened i ≡ Some (Began k (Some bytes)) → Contains (states ++ states_told (replied (take i happened))) bytes

-- each host lives so, from where it stands on
abbrev pub AllGoOn : (members places : ℕ) → (contents : ℕ → ℕ → Content) → (ℕ → HostView) → List HostEvent → Type 0
AllGoOn members places contents views happened = (k : ℕ) → k < members → LivesFrom members k places (contents k) (views k) (events_of k happened)

-- what happened first is of its host, and not of another
first_of : (h : HostEvent) (happened : List HostEvent) → events_of (host_of h) (h ∷ happened) ≡ h ∷ events_of (host_of h) happened
first_of h happened = ap (λ b. cond b (h ∷ events_of (host_of h) happened) (events_of (host_of h) happened)) (eq-eqb (host_of h) (host_of h) refl)

others_of : (k : ℕ) (h : HostEvent) (happened : List HostEvent) → host_of h ≢ k → events_of k (h ∷ happened) ≡ events_of k happened
others_of k h happened other = ap (λ b. cond b (h ∷ events_of k happened) (events_of k happened)) (apart (host_of h) k other)

contains_first : {A : Type 0} (x y : A) (xs : List A) → Contains (x ∷ xs) y → (x ≡ y) ⊎ Contains xs y
contains_first x y xs (zero, lt, is) = inl is
contains_first x y xs (suc k, lt, is) = inr (k, omega (arith, lt), is)

contains_behind : {A : Type 0} (xs ys : List A) (y : A) → Contains ys y → Contains (xs ++ ys) y
contains_behind xs ys y has =
    let at = contains_at ys y has in
    at_contains (xs ++ ys) (length xs + at.0) y (get_behind xs ys at.0 (length xs + at.0) (omega arith) ∙ at.1)

-- worlds go on by what happened behind a first event
onward : (members places : ℕ) (happened : List HostEvent) (ws : ℕ → Written) (most : ℕ) (on : AreTurned members places happened ws most) → (e : ℕ) → GoesOn members (ws e) (on.worlds e)
onward members places happened ws most on e = let ran = on.each e in (ran.script, ran.report, ran.goes)

-- what is known of the events behind a first one is known of all
module _ (members places : ℕ) (h : HostEvent) (happened : List HostEvent) (worlds : ℕ → Written) (most : ℕ) where
  printed_later : (x : Numbered) → IsKnown members places worlds (most + 1 + length happened) x → IsKnown members places worlds (most + length (h ∷ happened)) x
  printed_later x known_so = record { values = known_so.values; knows = known_so.knows; few = (let few = known_so.few in omega (arith, few)); output = known_so.output }

  again_later : (o : Output) → IsKnownOutput members places worlds (most + 1 + length happened) o → IsKnownOutput members places worlds (most + length (h ∷ happened)) o
  again_later o known_so = record { values = known_so.values; knows = known_so.knows; few = (let few = known_so.few in omega (arith, few)); output = known_so.output }

  state_later : (bytes : List ℕ) → IsKnownState members places worlds (most + 1 + length happened) bytes → IsKnownState members places worlds (most + length (h ∷ happened)) bytes
  state_later bytes known_so = record { state = known_so.state; knows = known_so.knows; few = (let few = known_so.few in omega (arith, few)) }

  whole_later : (e : ℕ) → (1 ≤ e) × (e ≤ most + 1 + length happened) → (1 ≤ e) × (e ≤ most + length (h ∷ happened))
  whole_later e w = (w.0, omega (arith, w.1))

  -- a host knows as many epochs as it counts
  known_few : (v' : HostView) → number v' ≤ most + 1 → length (known v') ≤ most + length (h ∷ happened)
  known_few v' low = omega (arith, low, length-append v'.passed (v'.own ∷ []))

-- a first turn, and then others
module _ (members places : ℕ) (t : HostTurn) (happened : List HostEvent) (ws : ℕ → Written) (contents : ℕ → ℕ → Content) (views : ℕ → HostView) (states : List (List ℕ)) (most : ℕ) (v' : HostView)
    (within : t.host < members) (low : number (views t.host) ≤ most) (first : IsTurned members places t ws contents views states most v') (rest : AreTurned members places happened first.worlds (most + 1)) where
  on : (e : ℕ) → GoesOn members (first.worlds e) (rest.worlds e)
  on = onward members places happened first.worlds (most + 1) rest

  knew : Knows members rest.worlds (known v')
  knew = knows_on members first.worlds rest.worlds (known v') on
      (subst (λ (u : HostView). Knows members first.worlds (known u)) (at_one views t.host v') (first.are.knows t.host within))

  few : length (known v') ≤ most + length (Replied t ∷ happened)
  few = known_few members places (Replied t) happened rest.worlds most v' (subst (λ (u : HostView). number u ≤ most + 1) (at_one views t.host v') (first.are.low t.host within))

  state_here : (bytes : List ℕ) → Contains (states_in t.reply) bytes → IsKnownState members places rest.worlds (most + length (Replied t ∷ happened)) bytes
  state_here bytes here =
      known_state_on members places first.worlds rest.worlds (most + 1) (most + length (Replied t ∷ happened)) bytes on (omega arith)
      (first.are.told bytes (contains_behind states (states_in t.reply) bytes here))

  whole_here : (e : ℕ) → is_done_in e t.reply ≡ true → (1 ≤ e) × (e ≤ most + length (Replied t ∷ happened))
  whole_here e done = let w = first.whole e done in (w.0, omega (arith, w.1, low))

  joined : AreTurned members places (Replied t ∷ happened) ws most
  joined = record {
    worlds = rest.worlds;
    each = λ e. ran_on members e t happened (ws e) (first.worlds e) (rest.worlds e) (first.each e) (rest.each e);
    printed = λ x has. ⊎_elim (λ here. record { values = known v'; knows = knew; few = few; output = first.printed x here })
        (λ later. printed_later members places (Replied t) happened rest.worlds most x (rest.printed x later))
        (Contains-append_cases (outputs_in t.reply) (outputs_printed (replied happened)) x has);
    again = λ o has. ⊎_elim (λ here. record { values = known v'; knows = knew; few = few; output = first.again o here })
        (λ later. again_later members places (Replied t) happened rest.worlds most o (rest.again o later))
        (Contains-append_cases (again_in t.reply) (told_again (replied happened)) o has);
    states = λ bytes has.
        ⊎_elim (λ here. state_here bytes here) (λ later. state_later members places (Replied t) happened rest.worlds most bytes (rest.states bytes later))
        (Contains-append_cases (states_in t.reply) (states_told (replied happened)) bytes has);
    whole = λ u e has done. ⊎_elim (λ is. whole_here e (subst (λ (y : HostTurn). is_done_in e y.reply ≡ true) (sym is) done))
        (λ later. whole_later members places (Replied t) happened rest.worlds most e (rest.whole u e later done)) (contains_first t u (replied happened) has);
  }

-- a host began again, and then the rest
begun_joined : (members places k : ℕ) (given : Option (List ℕ)) (happened : List HostEvent) (ws : ℕ → Written) (most : ℕ) (contents : ℕ → Content) (each : (e : ℕ) → Restarts members (ws e) k (contents e))
    → AreTurned members places happened (λ e. (each e).world) (most + 1) → AreTurned members places (Began k given ∷ happened) ws most
begun_joined members places k given happened ws most contents each rest = record {
  worlds = rest.worlds;
  each = λ e. ran_again members e k given (contents e) happened (ws e) (rest.worlds e) (each e) (rest.each e);
  printed = λ x has. printed_later members places (Began k given) happened rest.worlds most x (rest.printed x has);
  again = λ o has. again_later members places (Began k given) happened rest.worlds most o (rest.again o has);
  states = λ bytes has. state_later members places (Began k given) happened rest.worlds most bytes (rest.states bytes has);
  whole = λ u e has done. whole_later members places (Began k given) happened rest.worlds most e (rest.whole u e has done);
}

step_letters : (members e : ℕ) (t : HostTurn) (w w' : Written) → IsStep members e t w w' → w'.letters ≡ w.letters ++ letters_in e t.reply
step_letters members e t w w' (inl (none, nothing, same)) = ap (λ (x : Written). x.letters) same ∙ sym (append-nil w.letters) ∙ ap (λ (ls : List Letter). w.letters ++ ls) (sym nothing)
step_letters members e t w w' (inr (done, happening, answer, is, next, letters)) = letters

pub all_turned : (members places : ℕ) (happened : List HostEvent) (ws : ℕ → Written) (contents : ℕ → ℕ → Content) (views : ℕ → HostView) (states : List (List ℕ)) (most : ℕ)
    → All (λ h. host_of h < members) happened → AllGoOn members places contents views happened → ComeFrom ws (replied happened) → ToldFrom states (replied happened) → GivenFrom states happened
    → AreAt members places ws contents views states most → AreTurned members places happened ws most
all_turned members places [] ws contents views states most named go comes tells gives are = record {
  worlds = ws;
  each = λ e. record { script = []; report = []; events = tt; goes = refl; letters = sym (append-nil (ws e).letters) };
  printed = λ x has. absurd (let at = contains_at [] x has in cc (at.1));
  again = λ o has. absurd (let at = contains_at [] o has in cc (at.1));
  states = λ bytes has. absurd (let at = contains_at [] bytes has in cc (at.1));
  whole = λ t e has done. absurd (let at = contains_at [] t has in cc (at.1));
}
all_turned members places (Replied t ∷ happened) ws contents views states most named go comes tells gives are =
    let turns : List HostTurn = replied happened in
    let within : t.host < members = All-head (λ (h : HostEvent). host_of h < members) (Replied t) happened named in
    let lives : LivesFrom members t.host places (contents t.host) (views t.host) (Replied t ∷ events_of t.host happened) =
    subst (λ (hs : List HostEvent). LivesFrom members t.host places (contents t.host) (views t.host) hs) (first_of (Replied t) happened) (go t.host within) in
    let tell : IsTold states t = λ bytes epoch gives replied. subst (λ (xs : List (List ℕ)). Contains xs bytes) (append-nil states) (tells zero t refl bytes epoch gives replied) in
    let its = lives (state_from members places t ws contents views states most within are tell) in
    let v' : HostView = its.0 in
    let come : (e : ℕ) (l : Letter) (acted : Acted) → DoesIn t e (request.Letter l) acted → (l.to ≡ t.host) × Contains (ws e).letters l =
    λ e l acted does. let c = comes zero t refl e l acted does in (c.0, subst (λ (ls : List Letter). Contains ls l) (append-nil (ws e).letters) c.1) in
    let first : IsTurned members places t ws contents views states most v' = turned members places t ws contents views states most within are tell v' come its.1 in
    let go' : AllGoOn members places contents (with_at views t.host v') happened =
    at_each (λ k u. k < members → LivesFrom members k places (contents k) u (events_of k happened)) views t.host v' (λ lt. its.2)
    (λ k other lt. subst (λ (hs : List HostEvent). LivesFrom members k places (contents k) (views k) hs) (others_of k (Replied t) happened (λ is. other (sym is))) (go k lt)) in
    let comes' : ComeFrom first.worlds turns =
    λ i u at e l acted does.
    let c = comes (suc i) u at e l acted does in
    let sent : (ws e).letters ++ letters_sent e (take (suc i) (t ∷ turns)) ≡ (first.worlds e).letters ++ letters_sent e (take i turns) =
    sym (append_assoc (ws e).letters (letters_in e t.reply) (letters_sent e (take i turns))) ∙ ap (λ (ls : List Letter). ls ++ letters_sent e (take i turns)) (sym (step_letters members e t (ws e) (first.worlds e) (first.each e))) in
    (c.0, subst (λ (ls : List Letter). Contains ls l) sent c.1) in
    let tells' : ToldFrom (states ++ states_in t.reply) turns =
    λ i u at bytes epoch gives replied.
    subst (λ (xs : List (List ℕ)). Contains xs bytes) (sym (append_assoc states (states_in t.reply) (states_told (take i turns)))) (tells (suc i) u at bytes epoch gives replied) in
    let gives' : GivenFrom (states ++ states_in t.reply) happened =
    λ i k bytes at.
    subst (λ (xs : List (List ℕ)). Contains xs bytes) (sym (append_assoc states (states_in t.reply) (states_told (replied (take i happened))))) (gives (suc i) k bytes at) in
    joined members places t happened ws contents views states most v' within (are.low t.host within) first
    (all_turned members places happened first.worlds contents (with_at views t.host v') (states ++ states_in t.reply) (most + 1) (All-tail (λ (h : HostEvent). host_of h < members) (Replied t) happened named)
    go' comes' tells' gives' first.are)
all_turned members places (Began k given ∷ happened) ws contents views states most named go comes tells gives are =
    let within : k < members = All-head (λ (h : HostEvent). host_of h < members) (Began k given) happened named in
    let lives : LivesFrom members k places (contents k) (views k) (Began k given ∷ events_of k happened) =
    subst (λ (hs : List HostEvent). LivesFrom members k places (contents k) (views k) hs) (first_of (Began k given) happened) (go k within) in
    let give : (bytes : List ℕ) → given ≡ Some bytes → Contains states bytes =
    λ bytes is. subst (λ (xs : List (List ℕ)). Contains xs bytes) (append-nil states) (gives zero k bytes (ap (λ (g : Option (List ℕ)). Some (Began k g)) is)) in
    let its = lives (state_given members places ws contents views states most are given give) in
    let life : NewLife = its.0 in
    let first : IsBegun members places k ws contents views states most life = begins members places k ws contents views states most within are given give life its.1 in
    let go' : AllGoOn members places (with_at contents k life.contents) (with_at views k (begun places life)) happened =
    at_both (λ j c u. j < members → LivesFrom members j places c u (events_of j happened)) contents views k life.contents (begun places life) (λ lt. its.2)
    (λ j other lt. subst (λ (hs : List HostEvent). LivesFrom members j places (contents j) (views j) hs) (others_of j (Began k given) happened (λ is. other (sym is))) (go j lt)) in
    let comes' : ComeFrom (λ e. (first.each e).world) (replied happened) =
    λ i u at e l acted does.
    let c = comes i u at e l acted does in
    (c.0, subst (λ (ls : List Letter). Contains (ls ++ letters_sent e (take i (replied happened))) l) (sym (first.each e).letters) c.1) in
    begun_joined members places k given happened ws most life.contents first.each
    (all_turned members places happened (λ e. (first.each e).world) (with_at contents k life.contents) (with_at views k (begun places life)) states (most + 1)
    (All-tail (λ (h : HostEvent). host_of h < members) (Began k given) happened named) go' comes' tells (λ i j bytes at. gives (suc i) j bytes at) first.are)
