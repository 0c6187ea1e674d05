-- One turn of a host: what it does to the worlds of epochs.
use Rattle.std.proofs.Common.{◌≡◌, ◌≢◌, ◌⊎◌, inl, inr, ⊎_elim, ℕ, ◌+◌, ◌<◌, ◌≤◌, true, false, cond, eqb}
use Rattle.std.proofs.Common.{List, [], ◌∷◌, ◌++◌}
use Rattle.std.proofs.Common.{length}
use Rattle.std.proofs.Common.{refl, sym, ap, subst, ◌∙◌, arith, Some, slice_get, Contains}
use Rattle.std.proofs.lemmas.Bool.{eq-eqb, eqb-true}
use Rattle.std.proofs.lemmas.List.Elements.{Contains-append_cases}
use Rattle.std.proofs.lemmas.Option.{slice_get_within}
use Rattle.acceptor.specs.Content.{Content}
use Rattle.ballots.specs.declared.letters.Letter.{Letter}
use Rattle.epochs.specs.Epochs.{AreFull, outputs_over}
use Rattle.epoch_runs.specs.Runs.{IsOfRun}
use Rattle.grant_machine.specs.declared.output.Output.{Output}
use Rattle.hosts.specs.Views.{HostView, IsNear, known, number, with_node}
use Rattle.hosts.specs.declared.acted.HostActed.TheVariants.{Of}
use Rattle.host_service.specs.Numbers.{IsNumbered}
use Rattle.host_service.specs.Replying.{IsAskedOfNode}
use Rattle.host_service.specs.Serving.{Gives, IsToldState}
use Rattle.host_service.specs.declared.number.EpochNumber.{EpochNumber}
use Rattle.host_service.specs.declared.reply.HostReply.TheVariants.{InEpoch, Joined}
use Rattle.map_release.specs.declared.numbered.Numbered.{Numbered}
use Rattle.network_script.proofs.Callers.{along_joins, get_other, get_same}
use Rattle.network_script.specs.Next.{Next}
use Rattle.network_script.specs.World.{Written, opening as opening_world}
use Rattle.node.specs.View.{Standing, started}
use Rattle.node.specs.View.Standing.{Running}
use Rattle.node_lines.specs.declared.request.Request.{Request}
use Rattle.node_lines.specs.declared.request.Request.TheVariants as request
use Rattle.node_service.specs.Seated.{asked_of}
use Rattle.seats.specs.Acted.{letters_of, outputs_of, told}
use Rattle.seats.specs.Acts.{GoesTo}
use Rattle.seats.specs.declared.acted.Acted.{Acted}
use Rattle.seats.specs.declared.answer.Answer.{Answer}
use Rattle.world_events.specs.declared.event.Event.{Event}
use Rattle.host_lives.specs.Turns.{DoesIn, HostTurn, again_in, is_done_in, letters_in, outputs_in, states_in}
use Rattle.host_lives.specs.Lives.{IsOutputOf, IsTurnOf}
use Rattle.host_lives.proofs.Happened.{event_of, happens}
use Rattle.host_lives.proofs.Knowing.{GoesOn, Knows, knows_on}
use Rattle.host_lives.proofs.Lists.{apart, at_each, at_one, at_other, with_at}

-- a state to which a host went at this turn is one of these
abbrev pub IsTold : List (List ℕ) → HostTurn → Type 0
IsTold states t = (bytes : List ℕ) (epoch : ℕ) → Gives t.line bytes → t.reply ≡ Joined epoch → Contains states bytes

-- bytes are the state behind so many epochs at most, whose values nodes had learned
pub record IsKnownState (members places : ℕ) (ws : ℕ → Written) (most : ℕ) (bytes : List ℕ) : Type 0 where
  pub state : IsToldState members places bytes
  pub knows : Knows members ws state.passed
  pub few : length state.passed + 1 ≤ most

-- a host's nodes above its window stand as they began
abbrev pub IsAbove : (ℕ → Content) → HostView → Type 0
IsAbove contents v = (e : ℕ) → number v + 1 < e → v.nodes e ≡ Running (started (contents e))

-- the worlds of all epochs, whose nodes stand as hosts' nodes do, which began over these contents, and had learned what
-- the hosts know; no host is beyond epoch number most, and these states were told
pub record AreAt (members places : ℕ) (ws : ℕ → Written) (contents : ℕ → ℕ → Content) (views : ℕ → HostView) (states : List (List ℕ)) (most : ℕ) : Type 0 where
  pub came : (e : ℕ) → IsOfRun members (ws e)
  pub nodes : (j : ℕ) → j < members → (e : ℕ) → slice_get (ws e).nodes j ≡ Some ((views j).nodes e)
  pub knows : (j : ℕ) → j < members → Knows members ws (known (views j))
  pub above : (j : ℕ) → j < members → IsAbove (contents j) (views j)
  pub full : (j : ℕ) → j < members → AreFull places (views j).passed
  pub low : (j : ℕ) → j < members → number (views j) ≤ most
  pub told : (bytes : List ℕ) → Contains states bytes → IsKnownState members places ws most bytes

-- the worlds go on, and more is allowed
pub known_state_on : (members places : ℕ) (ws ws' : ℕ → Written) (most most' : ℕ) (bytes : List ℕ) → ((e : ℕ) → GoesOn members (ws e) (ws' e)) → most ≤ most'
    → IsKnownState members places ws most bytes → IsKnownState members places ws' most' bytes
known_state_on members places ws ws' most most' bytes on further was =
    record { state = was.state; knows = knows_on members ws ws' was.state.passed on was.knows; few = (let few = was.few in omega (arith, few, further)) }

-- at a turn nothing happens in epoch e, or one event
abbrev pub IsStep : ℕ → ℕ → HostTurn → Written → Written → Type 0
IsStep members e t w w' =
    ((is_done_in e t.reply ≡ false) × (letters_in e t.reply ≡ []) × (w' ≡ w))
    ⊎ ((is_done_in e t.reply ≡ true) × (happening : Event) × (answer : Answer) × IsTurnOf e w.letters t happening answer × Next members w happening answer w'
    × (w'.letters ≡ w.letters ++ letters_in e t.reply))

pub step_goes : (members e : ℕ) (t : HostTurn) (w w' : Written) → IsStep members e t w w' → GoesOn members w w'
step_goes members e t w w' (inl (none, nothing, same)) = ([], [], same)
step_goes members e t w w' (inr (done, happening, answer, is, next, letters)) = (happening ∷ [], answer ∷ [], (w', next, refl))

-- what a turn does, by which its host comes to v'
pub record IsTurned (members places : ℕ) (t : HostTurn) (ws : ℕ → Written) (contents : ℕ → ℕ → Content) (views : ℕ → HostView) (states : List (List ℕ)) (most : ℕ) (v' : HostView) : Type 0 where
  pub worlds : ℕ → Written
  pub each : (e : ℕ) → IsStep members e t (ws e) (worlds e)
  pub are : AreAt members places worlds contents (with_at views t.host v') (states ++ states_in t.reply) (most + 1)
  pub printed : (x : Numbered) → Contains (outputs_in t.reply) x → IsOutputOf places (known v') x
  pub again : (o : Output) → Contains (again_in t.reply) o → Contains (outputs_over places (known v')) o
  pub whole : (e : ℕ) → is_done_in e t.reply ≡ true → (1 ≤ e) × (e ≤ number (views t.host) + 1)

-- a world to which it goes is one of a run
pub came_on : (members : ℕ) (w w' : Written) → GoesOn members w w' → IsOfRun members w → IsOfRun members w'
came_on members w w' (script, report, goes) came = record {
  script = came.script ++ script;
  report = came.report ++ report;
  run = along_joins (Next members) (opening_world members []) w w' came.script script came.report report came.run goes;
}

-- one event
on_one : (members : ℕ) (w : Written) (happening : Event) (answer : Answer) (w' : Written) → Next members w happening answer w' → GoesOn members w w'
on_one members w happening answer w' next = (happening ∷ [], answer ∷ [], (w', next, refl))

-- no node was asked
pub record IsQuiet (members places : ℕ) (t : HostTurn) (ws : ℕ → Written) (views : ℕ → HostView) (most : ℕ) (v' : HostView) : Type 0 where
  pub none : (e : ℕ) → is_done_in e t.reply ≡ false
  pub nothing : (e : ℕ) → letters_in e t.reply ≡ []
  pub nodes : (e : ℕ) → v'.nodes e ≡ (views t.host).nodes e
  pub knows : Knows members ws (known v')
  pub full : AreFull places v'.passed
  pub further : number (views t.host) ≤ number v'
  pub low : number v' ≤ most + 1
  pub states : (bytes : List ℕ) → Contains (states_in t.reply) bytes → IsKnownState members places ws (most + 1) bytes
  pub printed : (x : Numbered) → Contains (outputs_in t.reply) x → IsOutputOf places (known v') x
  pub again : (o : Output) → Contains (again_in t.reply) o → Contains (outputs_over places (known v')) o

pub quiet : (members places : ℕ) (t : HostTurn) (ws : ℕ → Written) (contents : ℕ → ℕ → Content) (views : ℕ → HostView) (states : List (List ℕ)) (most : ℕ) (v' : HostView) → AreAt members places ws contents views states most
    → IsQuiet members places t ws views most v' → IsTurned members places t ws contents views states most v'
quiet members places t ws contents views states most v' are is = record {
  worlds = ws;
  each = λ e. inl (is.none e, is.nothing e, refl);
  are = record {
    came = are.came;
    nodes = at_each (λ j u. j < members → (e : ℕ) → slice_get (ws e).nodes j ≡ Some (u.nodes e)) views t.host v'
        (λ within e. are.nodes t.host within e ∙ ap (λ (s : Standing). Some s) (sym (is.nodes e))) (λ j other. are.nodes j);
    knows = at_each (λ j u. j < members → Knows members ws (known u)) views t.host v' (λ within. is.knows) (λ j other. are.knows j);
    above = at_each (λ j u. j < members → IsAbove (contents j) u) views t.host v'
        (λ within e far. (let further = is.further in is.nodes e ∙ are.above t.host within e (omega (arith, far, further)))) (λ j other. are.above j);
    full = at_each (λ j u. j < members → AreFull places u.passed) views t.host v' (λ within. is.full) (λ j other. are.full j);
    low = at_each (λ j u. j < members → number u ≤ most + 1) views t.host v' (λ within. is.low) (λ j other within. (let low = are.low j within in omega (arith, low)));
    told = λ bytes has. ⊎_elim (λ before. known_state_on members places ws ws most (most + 1) bytes (λ e. ([], [], refl)) (omega arith) (are.told bytes before)) (λ here. is.states bytes here)
        (Contains-append_cases states (states_in t.reply) bytes has);
  };
  printed = is.printed;
  again = is.again;
  whole = λ e done. absurd (let clash : true ≡ false = sym done ∙ is.none e in cc (clash));
}

-- a node was asked
pub acted_turn : (members places : ℕ) (t : HostTurn) (ws : ℕ → Written) (contents : ℕ → ℕ → Content) (views : ℕ → HostView) (states : List (List ℕ)) (most : ℕ) (n : EpochNumber) (rest : List ℕ) (asked : Request) (acted : Acted) (s : Standing)
    → t.host < members → AreAt members places ws contents views states most → ((e : ℕ) (l : Letter) (came : Acted) → DoesIn t e (request.Letter l) came → (l.to ≡ t.host) × Contains (ws e).letters l)
    → IsNumbered t.line n rest → IsAskedOfNode rest asked → t.reply ≡ InEpoch n (Of acted) → IsNear (views t.host) n.epoch
    → GoesTo members t.host ((views t.host).nodes n.epoch) (asked_of asked) (told acted) (letters_of acted) (outputs_of acted) (λ u. u ≡ s)
    → IsTurned members places t ws contents views states most (with_node (views t.host) n.epoch s)
acted_turn members places t ws contents views states most n rest asked acted s within are comes numbered asks replied near goes =
    let e0 : ℕ = n.epoch in
    let w : Written = ws e0 in
    let v : HostView = views t.host in
    let v' : HostView = with_node v e0 s in
    let at = are.nodes t.host within e0 in
    let does : (r : Request) → asked ≡ r → DoesIn t e0 r acted =
    λ r is. record { number = n; rest = rest; numbered = numbered; epoch = refl; asks = subst (IsAskedOfNode rest) is asks; told = replied } in
    let happening = event_of w.letters t.host asked (λ l is. comes e0 l acted (does (request.Letter l) is)) in
    let h = happens members w t.host (v.nodes e0) s asked (told acted) (letters_of acted) (outputs_of acted) happening.0 at goes happening.1 in
    let here : eqb e0 e0 ≡ true = eq-eqb e0 e0 refl in
    let sent : letters_in e0 t.reply ≡ letters_of acted = ap (letters_in e0) replied ∙ ap (λ b. cond b (letters_of acted) []) here in
    let each : (e : ℕ) → IsStep members e t (ws e) (with_at ws e0 h.world e) =
    at_each (λ e x. IsStep members e t (ws e) x) ws e0 h.world
    (inr (ap (is_done_in e0) replied ∙ here, happening.0, told acted, (asked, acted, does asked refl, happening.1, refl), h.next, h.letters ∙ ap (λ (ls : List Letter). w.letters ++ ls) (sym sent)))
    (λ e other. inl (
      ap (is_done_in e) replied ∙ apart e0 e (λ is. other (sym is)),
      ap (letters_in e) replied ∙ ap (λ b. cond b (letters_of acted) []) (apart e0 e (λ is. other (sym is))),
      refl,
    )) in
    let on : (e : ℕ) → GoesOn members (ws e) (with_at ws e0 h.world e) = λ e. step_goes members e t (ws e) (with_at ws e0 h.world e) (each e) in
    let is_within : t.host < length w.nodes = slice_get_within w.nodes t.host (v.nodes e0) at in
    let new_at : (j : ℕ) → j < members → slice_get h.world.nodes j ≡ Some ((with_at views t.host v' j).nodes e0) =
    at_each (λ j u. j < members → slice_get h.world.nodes j ≡ Some (u.nodes e0)) views t.host v'
    (λ lt. ap (λ ns. slice_get ns t.host) h.nodes ∙ get_same w.nodes t.host s is_within ∙ ap (λ (u : Standing). Some u) (sym (at_one v.nodes e0 s)))
    (λ j other lt. ap (λ ns. slice_get ns j) h.nodes ∙ get_other w.nodes t.host j s (λ is. other (sym is)) ∙ are.nodes j lt e0) in
    let old_at : (e : ℕ) → e ≢ e0 → (j : ℕ) → j < members → slice_get (ws e).nodes j ≡ Some ((with_at views t.host v' j).nodes e) =
    λ e apart_from. at_each (λ j u. j < members → slice_get (ws e).nodes j ≡ Some (u.nodes e)) views t.host v'
    (λ lt. are.nodes t.host lt e ∙ ap (λ (u : Standing). Some u) (sym (at_other v.nodes e0 s e apart_from)))
    (λ j other lt. are.nodes j lt e) in
    let nodes : (e : ℕ) (j : ℕ) → j < members → slice_get (with_at ws e0 h.world e).nodes j ≡ Some ((with_at views t.host v' j).nodes e) =
    at_each (λ e x. (j : ℕ) → j < members → slice_get x.nodes j ≡ Some ((with_at views t.host v' j).nodes e)) ws e0 h.world new_at old_at in
    let came : (e : ℕ) → IsOfRun members (with_at ws e0 h.world e) = at_each (λ e x. IsOfRun members x) ws e0 h.world (came_on members w h.world (on_one members w happening.0 (told acted) h.world h.next) (are.came e0)) (λ e other. are.came e) in
    record {
      worlds = with_at ws e0 h.world;
      each = each;
      are = record {
        came = came;
        nodes = λ j lt e. nodes e j lt;
        knows = at_each (λ j u. j < members → Knows members (with_at ws e0 h.world) (known u)) views t.host v'
            (λ lt. knows_on members ws (with_at ws e0 h.world) (known v) on (are.knows t.host lt))
            (λ j other lt. knows_on members ws (with_at ws e0 h.world) (known (views j)) on (are.knows j lt));
        above = at_each (λ j u. j < members → IsAbove (contents j) u) views t.host v'
            (λ lt e far. at_other v.nodes e0 s e (λ is. (let high = near.high in omega (arith, far, high, is))) ∙ are.above t.host lt e far) (λ j other. are.above j);
        full = at_each (λ j u. j < members → AreFull places u.passed) views t.host v' (λ lt. are.full t.host lt) (λ j other. are.full j);
        low = at_each (λ j u. j < members → number u ≤ most + 1) views t.host v'
            (λ lt. (let low = are.low t.host lt in omega (arith, low))) (λ j other lt. (let low = are.low j lt in omega (arith, low)));
        told = λ bytes has. ⊎_elim (λ before. known_state_on members places ws (with_at ws e0 h.world) most (most + 1) bytes on (omega arith) (are.told bytes before))
            (λ here. absurd (none_in bytes (subst (λ (xs : List (List ℕ)). Contains xs bytes) (ap states_in replied) here)))
            (Contains-append_cases states (states_in t.reply) bytes has);
      };
      printed = λ x has. absurd (none_in x (subst (λ (xs : List Numbered). Contains xs x) (ap outputs_in replied) has));
      again = λ o has. absurd (none_in o (subst (λ (xs : List Output). Contains xs o) (ap again_in replied) has));
      whole = λ e is. let same : e0 ≡ e = eqb-true e0 e (sym (ap (is_done_in e) replied) ∙ is) in (omega (arith, near.some, same), omega (arith, near.high, same));
    }
  where
    none_in : {X : Type 0} (x : X) → Contains [] x → ⊥
    none_in x (k, lt, is) = omega (arith, lt)
