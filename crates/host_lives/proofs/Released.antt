-- A host's reply is one turn, whatever the line was.
use Rattle.std.proofs.Common.{◌≡◌, ◌≢◌, ◌⊎◌, inl, inr, ⊎_elim, ℕ, zero, suc, ◌+◌, ◌<◌, ◌≤◌, Bool, true, false, ◌&&◌, cond, eqb, leb, ltb}
use Rattle.std.proofs.Common.{List, [], ◌∷◌, ◌++◌, length, not, eqb-true}
use Rattle.std.proofs.Common.{drop, refl, sym, ap, subst, ◌∙◌, arith, Some, slice_get, Contains, length-append}
use Rattle.std.proofs.lemmas.Bool.{cases_lt, leb-true}
use Rattle.std.proofs.lemmas.Bool.Decides.{eqb_tells}
use Rattle.std.specs.Prelude.{Vec}
use Rattle.std.specs.declared.alloc.Global.{Global}
use Rattle.acceptor.specs.Content.{Content}
use Rattle.ballots.specs.declared.letters.Letter.{Letter}
use Rattle.epochs.specs.Epochs.{AreFull, outputs_over}
use Rattle.epochs.specs.Scheduling.{most_applied}
use Rattle.flow_state.proofs.Callers.{contains_at}
use Rattle.grant_machine.specs.declared.output.Output.{Output}
use Rattle.hosts.specs.States.{IsStateOf}
use Rattle.hosts.specs.Views.{AreBegun, GoesFrom, HostView, MovesIn, Releases, TakesUp, TellsAgain, first_lacked}
use Rattle.hosts.specs.Views.{is_passed, joined as joined_at, known, number, values, with_more}
use Rattle.hosts.specs.declared.acted.Given.{Given}
use Rattle.hosts.specs.declared.acted.Given.TheVariants.{Outputs, Failed}
use Rattle.hosts.specs.declared.acted.HostActed.{HostActed}
use Rattle.hosts.specs.declared.acted.HostActed.TheVariants.{Of, Ended, Ahead, Gone, OtherPlaces}
use Rattle.host_service.specs.Numbers.{IsNumbered}
use Rattle.host_service.specs.Replying.{fault_reply, reply_of, state_told}
use Rattle.host_service.specs.Serving.{AloneAs, GoesToState, IsBehind, IsToldAt, RepliesAs}
use Rattle.host_service.specs.declared.number.EpochNumber.{EpochNumber}
use Rattle.host_service.specs.declared.reply.HostReply.{HostReply}
use Rattle.host_service.specs.declared.reply.HostReply.TheVariants.{InEpoch, State, StateTooLong, NoState, Again}
use Rattle.host_service.specs.declared.reply.HostReply.TheVariants.{AsNode}
use Rattle.host_service.specs.declared.reply.TheConstants.{LONGEST_STATE}
use Rattle.map_release.specs.declared.numbered.Numbered.{Numbered}
use Rattle.map_release.specs.Released.{has_ended, numbered, released}
use Rattle.network_script.specs.World.{Written}
use Rattle.node.proofs.Callers.{in_filter}
use Rattle.node.specs.View.{Standing, started}
use Rattle.node.specs.View.Standing.{Running}
use Rattle.node_lines.specs.declared.request.Request.TheVariants as request
use Rattle.node_service.specs.declared.outgoing.Reply.TheVariants as node_reply
use Rattle.proposer.specs.declared.fault.NodeFault.{NodeFault}
use Rattle.proposer.specs.declared.fault.NodeFault.TheVariants.{OutOfMemory}
use Rattle.seats.specs.Acted.{letters_of, outputs_of, told}
use Rattle.seats.specs.Acts.{GoesTo}
use Rattle.seats.specs.Moves.{Ask}
use Rattle.seats.specs.declared.acted.Acted.{Acted}
use Rattle.host_lives.specs.Turns.{DoesIn, HostTurn, again_in, is_done_in, letters_in, outputs_in, states_in}
use Rattle.host_lives.specs.Beginning.{AnyFault, Hold}
use Rattle.host_lives.specs.Lives.{IsOutputOf}
use Rattle.host_lives.proofs.Knowing.{Knows, knows_front, knows_more, knows_push}
use Rattle.host_lives.proofs.Lists.{at_same, get_in, in_drop, in_numbered}
use Rattle.host_lives.proofs.Turned.{AreAt, IsAbove, IsKnownState, IsTold, IsTurned, acted_turn, quiet}

-- ---- a host that goes on

-- and the epochs behind it are full
pub full_more : (places : ℕ) (cs : List (List (List ℕ))) (c : List (List ℕ)) → AreFull places cs → places ≤ length c → AreFull places (cs ++ c ∷ [])
full_more places [] c full le = (le, tt)
full_more places (first ∷ cs) c (this, others) le = (this, full_more places cs c others le)

first_holds : (a b : Bool) → (a && b) ≡ true → a ≡ true
first_holds true b both = refl
first_holds false b both = absurd (let wrong : false ≡ true = both in cc (wrong))

-- so is its own one where it is passed
pub whole_own : (places : ℕ) (v : HostView) → is_passed places v ≡ true → places ≤ length v.own
whole_own places v passed =
    let first = first_holds (eqb (length v.own) places) (eqb v.cursor (length (values places v)) && ltb (length (values places v) + places) most_applied) passed in
    let same : length v.own ≡ places = eqb-true (length v.own) places first in
    omega (arith, same)

module _ (contents : ℕ → Content) (places : ℕ) (v : HostView) (above : IsAbove contents v) where
  -- where it goes on its nodes are the same: the one that it opens stands as it began
  here_nodes : (w : HostView) → GoesFrom (Hold contents) places v w → (e : ℕ) → w.nodes e ≡ v.nodes e
  here_nodes w (inl (passed, (c, holds, same))) e =
      let far : v.nodes (number v + 2) ≡ Running (started (contents (number v + 2))) = above (number v + 2) (omega arith) in
      let opened : Running (started c) ≡ v.nodes (number v + 2) = ap (λ (x : Content). Running (started x)) holds ∙ sym far in
      ap (λ (u : HostView). u.nodes e) same ∙ at_same v.nodes (number v + 2) (Running (started c)) opened e
  here_nodes w (inr (stays, same)) e = ap (λ (u : HostView). u.nodes e) same

  -- and it knows the same, and its epoch is the next at most
  here_further : (w : HostView) → GoesFrom (Hold contents) places v w → number w ≤ number v + 1
  here_further w (inl (passed, (c, holds, same))) = subst (λ (u : HostView). number u ≤ number v + 1) (sym same) (omega (arith, length-append v.passed (v.own ∷ [])))
  here_further w (inr (stays, same)) = subst (λ (u : HostView). number u ≤ number v + 1) (sym same) (omega arith)

  here_least : (w : HostView) → GoesFrom (Hold contents) places v w → number v ≤ number w
  here_least w (inl (passed, (c, holds, same))) = subst (λ (u : HostView). number v ≤ number u) (sym same) (omega (arith, length-append v.passed (v.own ∷ [])))
  here_least w (inr (stays, same)) = subst (λ (u : HostView). number v ≤ number u) (sym same) (omega arith)

  here_knows : (members : ℕ) (ws : ℕ → Written) (w : HostView) → GoesFrom (Hold contents) places v w → Knows members ws (known v) → Knows members ws (known w)
  here_knows members ws w (inl (passed, (c, holds, same))) knows =
      subst (λ (u : HostView). Knows members ws (known u)) (sym same) (knows_push members ws (known v) [] knows (λ i x at. absurd (cc (at))))
  here_knows members ws w (inr (stays, same)) knows = subst (λ (u : HostView). Knows members ws (known u)) (sym same) knows

  here_full : (w : HostView) → GoesFrom (Hold contents) places v w → AreFull places v.passed → AreFull places w.passed
  here_full w (inl (passed, (c, holds, same))) full =
      subst (λ (u : HostView). AreFull places u.passed) (sym same) (full_more places v.passed v.own full (whole_own places v passed))
  here_full w (inr (stays, same)) full = subst (λ (u : HostView). AreFull places u.passed) (sym same) full

-- ---- a host that joins

-- the first epoch of which it lacks the node is above those that it has
lacks_above : (n e : ℕ) → n < e → n + 1 < first_lacked n e
lacks_above n e below = ⊎_elim
    (λ yes. let at : first_lacked n e ≡ e + 1 = ap (λ b. cond b (e + 1) e) yes.0 in omega (arith, at, yes.1))
    (λ no. let at : first_lacked n e ≡ e = ap (λ b. cond b (e + 1) e) no.0 in far at (cases_lt (n + 1) e) no.1)
    (eqb_tells e (n + 1))
  where
    far : first_lacked n e ≡ e → (n + 1 < e) ⊎ (e ≤ n + 1) → e ≢ n + 1 → n + 1 < first_lacked n e
    far at (inl lt) other = omega (arith, at, lt)
    far at (inr le) other = absurd (other (omega (arith, le, below)))

-- its nodes are the same: those that it opens stand as they began
join_nodes : (contents found : ℕ → Content) (places : ℕ) (v : HostView) (passed : List (List (List ℕ))) → IsAbove contents v → number v < length passed + 1
    → ((e : ℕ) → first_lacked (number v) (length passed + 1) ≤ e → e ≤ length passed + 1 + 1 → found e ≡ contents e) → (e : ℕ) → (joined_at places v passed found).nodes e ≡ v.nodes e
join_nodes contents found places v passed above below holds e = by (leb first e) (leb e (length passed + 1 + 1)) refl refl
  where
    first : ℕ
    first = first_lacked (number v) (length passed + 1)

    by : (a b : Bool) → leb first e ≡ a → leb e (length passed + 1 + 1) ≡ b → cond (a && b) (Running (started (found e))) (v.nodes e) ≡ v.nodes e
    by true true from to =
        let le : first ≤ e = leb-true first e from in
        let lacks : number v + 1 < first = lacks_above (number v) (length passed + 1) below in
        ap (λ (x : Content). Running (started x)) (holds e le (leb-true e (length passed + 1 + 1) to)) ∙ sym (above e (omega (arith, le, lacks)))
    by true false from to = refl
    by false b from to = refl

-- ---- what it prints

-- outputs behind a cursor stand at their numbers
released_are : (now cursor : ℕ) (outputs : List Output) (x : Numbered) → Contains (released now cursor outputs) x → (i : ℕ) × (x.place ≡ i + 1) × (slice_get outputs i ≡ Some x.output)
released_are now cursor outputs x has =
    let at = contains_at (released now cursor outputs) x has in
    let there = in_filter (λ (y : Numbered). not (has_ended now y.output)) (drop cursor (numbered 1 outputs)) x (get_in (released now cursor outputs) at.0 x at.1) in
    in_numbered 1 outputs x (in_drop cursor (numbered 1 outputs) x there.0)

contains_none : {X : Type 0} (x : X) → Contains [] x → ⊥
contains_none x (k, lt, is) = omega (arith, lt)

none_printed : (places : ℕ) (v : HostView) (told : HostReply) → outputs_in told ≡ [] → (x : Numbered) → Contains (outputs_in told) x → IsOutputOf places (known v) x
none_printed places v told none x has = absurd (contains_none x (subst (λ (xs : List Numbered). Contains xs x) none has))

-- nothing is in a reply: no node did anything, and nothing was printed, told or told again
record IsPlain (r : HostReply) : Type 0 where
  none : (e : ℕ) → is_done_in e r ≡ false
  nothing : (e : ℕ) → letters_in e r ≡ []
  silent : outputs_in r ≡ []
  stateless : states_in r ≡ []
  unsaid : again_in r ≡ []

plain_by : (r s : HostReply) → r ≡ s → IsPlain s → IsPlain r
plain_by r s is plain = subst IsPlain (sym is) plain

-- the same but for what is printed
record IsRelease (r : HostReply) : Type 0 where
  none : (e : ℕ) → is_done_in e r ≡ false
  nothing : (e : ℕ) → letters_in e r ≡ []
  stateless : states_in r ≡ []
  unsaid : again_in r ≡ []

release_by : (places : ℕ) (given : Given) → IsRelease (reply_of places given)
release_by places (Outputs outputs epoch place) = record { none = λ e. refl; nothing = λ e. refl; stateless = refl; unsaid = refl }
release_by places (Failed fault) = record { none = λ e. refl; nothing = λ e. refl; stateless = refl; unsaid = refl }

-- what is told as a state is these bytes
is_told : (bytes x : List ℕ) (b : Bool) → Contains (states_in (cond b (State bytes) StateTooLong)) x → bytes ≡ x
is_told bytes x true (zero, lt, is) = is
is_told bytes x true (suc k, lt, is) = absurd (omega (arith, lt))
is_told bytes x false has = absurd (contains_none x has)

-- nothing else is in such a reply
told_none : (bytes : List ℕ) (b : Bool) (e : ℕ) → is_done_in e (cond b (State bytes) StateTooLong) ≡ false
told_none bytes true e = refl
told_none bytes false e = refl

told_nothing : (bytes : List ℕ) (b : Bool) (e : ℕ) → letters_in e (cond b (State bytes) StateTooLong) ≡ []
told_nothing bytes true e = refl
told_nothing bytes false e = refl

told_silent : (bytes : List ℕ) (b : Bool) → outputs_in (cond b (State bytes) StateTooLong) ≡ []
told_silent bytes true = refl
told_silent bytes false = refl

told_unsaid : (bytes : List ℕ) (b : Bool) → again_in (cond b (State bytes) StateTooLong) ≡ []
told_unsaid bytes true = refl
told_unsaid bytes false = refl

-- ---- each kind of turn

module _ (members places : ℕ) (t : HostTurn) (ws : ℕ → Written) (contents : ℕ → ℕ → Content) (views : ℕ → HostView) (states : List (List ℕ)) (most : ℕ) (within : t.host < members) (are : AreAt members places ws contents views states most) where
  here_low : number (views t.host) ≤ most + 1
  here_low = let low = are.low t.host within in omega (arith, low)

  no_states : states_in t.reply ≡ [] → (bytes : List ℕ) → Contains (states_in t.reply) bytes → IsKnownState members places ws (most + 1) bytes
  no_states none bytes has = absurd (contains_none bytes (subst (λ (xs : List (List ℕ)). Contains xs bytes) none has))

  not_again : (v' : HostView) → again_in t.reply ≡ [] → (o : Output) → Contains (again_in t.reply) o → Contains (outputs_over places (known v')) o
  not_again v' none o has = absurd (contains_none o (subst (λ (xs : List Output). Contains xs o) none has))

  -- nothing changed
  same_turn : (v' : HostView) → v' ≡ views t.host → IsPlain t.reply → IsTurned members places t ws contents views states most v'
  same_turn v' same plain = quiet members places t ws contents views states most v' are (record {
    none = plain.none;
    nothing = plain.nothing;
    nodes = λ e. ap (λ (u : HostView). u.nodes e) same;
    knows = subst (λ (u : HostView). Knows members ws (known u)) (sym same) (are.knows t.host within);
    full = subst (λ (u : HostView). AreFull places u.passed) (sym same) (are.full t.host within);
    further = subst (λ (u : HostView). number (views t.host) ≤ number u) (sym same) (omega arith);
    low = subst (λ (u : HostView). number u ≤ most + 1) (sym same) here_low;
    states = no_states plain.stateless;
    printed = none_printed places v' t.reply plain.silent;
    again = not_again v' plain.unsaid;
  })

  -- a line with a number
  numbered_turn : (n : EpochNumber) (rest : List ℕ) (ask : Ask) (acted : HostActed) (v' : HostView)
      → ((e : ℕ) (l : Letter) (came : Acted) → DoesIn t e (request.Letter l) came → (l.to ≡ t.host) × Contains (ws e).letters l)
      → IsNumbered t.line n rest → IsBehind rest acted ask → MovesIn members t.host places (views t.host) n.epoch n.places ask acted v' → t.reply ≡ InEpoch n acted → IsTurned members places t ws contents views states most v'
  numbered_turn n rest ask (Of acted) v' comes is_of (asked, asks, is) (said, near, open_place, (s, goes, moved)) replied =
      let asked_so = subst (λ (a : Ask). GoesTo members t.host ((views t.host).nodes n.epoch) a (told acted) (letters_of acted) (outputs_of acted) (λ u. u ≡ s)) is goes in
      subst (λ (u : HostView). IsTurned members places t ws contents views states most u) (sym moved)
      (acted_turn members places t ws contents views states most n rest asked acted s within are comes is_of asks replied near asked_so)
  numbered_turn n rest ask Ended v' comes is_of behind (said, near, beyond, same) replied =
      same_turn v' same (plain_by t.reply (InEpoch n Ended) replied (record { none = λ e. refl; nothing = λ e. refl; silent = refl; stateless = refl; unsaid = refl }))
  numbered_turn n rest ask Ahead v' comes is_of behind (said, above, same) replied =
      same_turn v' same (plain_by t.reply (InEpoch n Ahead) replied (record { none = λ e. refl; nothing = λ e. refl; silent = refl; stateless = refl; unsaid = refl }))
  numbered_turn n rest ask Gone v' comes is_of behind (said, below, same) replied =
      same_turn v' same (plain_by t.reply (InEpoch n Gone) replied (record { none = λ e. refl; nothing = λ e. refl; silent = refl; stateless = refl; unsaid = refl }))
  numbered_turn n rest ask OtherPlaces v' comes is_of behind (said, same) replied =
      same_turn v' same (plain_by t.reply (InEpoch n OtherPlaces) replied (record { none = λ e. refl; nothing = λ e. refl; silent = refl; stateless = refl; unsaid = refl }))

  -- more was taken up, from where the host goes on
  took_turn : (w : HostView) (more : List (List ℕ)) (v' : HostView) → GoesFrom (Hold (contents t.host)) places (views t.host) w → TakesUp places w more
      → v'.passed ≡ w.passed → v'.own ≡ w.own ++ more → v'.nodes ≡ w.nodes
      → IsRelease t.reply → ((x : Numbered) → Contains (outputs_in t.reply) x → IsOutputOf places (known v') x) → IsTurned members places t ws contents views states most v'
  took_turn w more v' goes takes passed own nodes release printed =
      let v : HostView = views t.host in
      let above : IsAbove (contents t.host) v = are.above t.host within in
      let is_known : known v' ≡ known (with_more w more) = λ i. passed i ++ own i ∷ [] in
      let same : (e : ℕ) → w.nodes e ≡ v.nodes e = here_nodes (contents t.host) places v above w goes in
      let stood : slice_get (ws (number w)).nodes t.host ≡ Some (w.nodes (number w)) =
      are.nodes t.host within (number w) ∙ ap (λ (x : Standing). Some x) (sym (same (number w))) in
      let low : number v ≤ most = are.low t.host within in
      let further : number w ≤ most + 1 = (let is = here_further (contents t.host) places v above w goes in omega (arith, is, low)) in
      quiet members places t ws contents views states most v' are (record {
        none = release.none;
        nothing = release.nothing;
        nodes = λ e. ap (λ (f : ℕ → Standing). f e) nodes ∙ same e;
        knows = subst (λ (cs : List (List (List ℕ))). Knows members ws cs) (sym is_known)
            (knows_more members ws t.host places w more (are.came (number w)) stood takes (here_knows (contents t.host) places v above members ws w goes (are.knows t.host within)));
        full = subst (λ (xs : List (List (List ℕ))). AreFull places xs) (sym passed) (here_full (contents t.host) places v above w goes (are.full t.host within));
        further = subst (λ (xs : List (List (List ℕ))). number v ≤ length xs + 1) (sym passed) (here_least (contents t.host) places v above w goes);
        low = subst (λ (xs : List (List (List ℕ))). length xs + 1 ≤ most + 1) (sym passed) further;
        states = no_states release.stateless;
        printed = printed;
        again = not_again v' release.unsaid;
      })

  -- a release
  released_turn : (now : ℕ) (given : Given) (v' : HostView) → Releases (Hold (contents t.host)) AnyFault places (views t.host) now given v' → t.reply ≡ reply_of places given
      → IsTurned members places t ws contents views states most v'
  released_turn now (Outputs outputs epoch place) v' (w, goes, (more, takes, all, (given, epoch_is, place_is), moved)) replied =
      let here : HostView = with_more w more in
      took_turn w more v' goes takes (ap (λ (u : HostView). u.passed) moved) (ap (λ (u : HostView). u.own) moved) (ap (λ (u : HostView). u.nodes) moved)
      (subst IsRelease (sym replied) (release_by places (Outputs outputs epoch place)))
      (λ x has.
      let is : outputs_in t.reply ≡ released now here.cursor (outputs_over places (known here)) = ap outputs_in replied ∙ given in
      let printed : IsOutputOf places (known here) x = released_are now here.cursor (outputs_over places (known here)) x (subst (λ (xs : List Numbered). Contains xs x) is has) in
      subst (λ (u : HostView). IsOutputOf places (known u) x) (sym moved) printed)
  released_turn now (Failed fault) v' (inl stays) replied =
      same_turn v' stays.2 (plain_by t.reply (fault_reply fault) replied (record { none = λ e. refl; nothing = λ e. refl; silent = refl; stateless = refl; unsaid = refl }))
  released_turn now (Failed fault) v' (inr (w, goes, (more, takes, moved, why))) replied =
      took_turn w more v' goes takes (ap (λ (u : HostView). u.passed) moved) (ap (λ (u : HostView). u.own) moved) (ap (λ (u : HostView). u.nodes) moved)
      (subst IsRelease (sym replied) (release_by places (Failed fault))) (none_printed places v' t.reply (ap outputs_in replied))

  -- want of memory, or another fault, was told
  failed_turn : (fault : NodeFault) (v' : HostView) → v' ≡ views t.host → t.reply ≡ fault_reply fault → IsTurned members places t ws contents views states most v'
  failed_turn fault v' same replied =
      same_turn v' same (plain_by t.reply (fault_reply fault) replied (record { none = λ e. refl; nothing = λ e. refl; silent = refl; stateless = refl; unsaid = refl }))

  -- its state was told
  state_turn : (bytes : List ℕ) (v' : HostView) → IsStateOf t.host members places (views t.host).passed bytes → v' ≡ views t.host → t.reply ≡ state_told bytes
      → IsTurned members places t ws contents views states most v'
  state_turn bytes v' is same replied =
      let v : HostView = views t.host in
      let b : Bool = leb (length bytes) LONGEST_STATE in
      let known_so : IsKnownState members places ws (most + 1) bytes = record {
        state = record { teller = t.host; passed = v.passed; full = are.full t.host within; is = is };
        knows = knows_front members ws v.passed (v.own ∷ []) (are.knows t.host within);
        few = here_low;
      } in
      quiet members places t ws contents views states most v' are (record {
        none = λ e. ap (is_done_in e) replied ∙ told_none bytes b e;
        nothing = λ e. ap (letters_in e) replied ∙ told_nothing bytes b e;
        nodes = λ e. ap (λ (u : HostView). u.nodes e) same;
        knows = subst (λ (u : HostView). Knows members ws (known u)) (sym same) (are.knows t.host within);
        full = subst (λ (u : HostView). AreFull places u.passed) (sym same) (are.full t.host within);
        further = subst (λ (u : HostView). number (views t.host) ≤ number u) (sym same) (omega arith);
        low = subst (λ (u : HostView). number u ≤ most + 1) (sym same) here_low;
        states = λ x has.
            subst (λ (y : List ℕ). IsKnownState members places ws (most + 1) y) (is_told bytes x b (subst (λ (r : HostReply). Contains (states_in r) x) replied has)) known_so;
        printed = none_printed places v' t.reply (ap outputs_in replied ∙ told_silent bytes b);
        again = not_again v' (ap again_in replied ∙ told_unsaid bytes b);
      })

  -- outputs were told again
  again_turn : (outputs : Vec Output Global) (v' : HostView) → TellsAgain places (views t.host) outputs.items → v' ≡ views t.host → t.reply ≡ Again outputs
      → IsTurned members places t ws contents views states most v'
  again_turn outputs v' tells same replied = quiet members places t ws contents views states most v' are (record {
    none = λ e. ap (is_done_in e) replied;
    nothing = λ e. ap (letters_in e) replied;
    nodes = λ e. ap (λ (u : HostView). u.nodes e) same;
    knows = subst (λ (u : HostView). Knows members ws (known u)) (sym same) (are.knows t.host within);
    full = subst (λ (u : HostView). AreFull places u.passed) (sym same) (are.full t.host within);
    further = subst (λ (u : HostView). number (views t.host) ≤ number u) (sym same) (omega arith);
    low = subst (λ (u : HostView). number u ≤ most + 1) (sym same) here_low;
    states = no_states (ap states_in replied);
    printed = none_printed places v' t.reply (ap outputs_in replied);
    again = λ o has.
        subst (λ (u : HostView). Contains (outputs_over places (known u)) o) (sym same) (tells.told o (subst (λ (xs : List Output). Contains xs o) (ap again_in replied) has));
  })

  -- the host went to a state
  abbrev pub state_from : IsTold states t → IsToldAt members places t.line t.reply
  state_from come bytes epoch gives replied = (are.told bytes (come bytes epoch gives replied)).state

  joined_turn : (come : IsTold states t) (v' : HostView) → GoesToState (Hold (contents t.host)) members places (views t.host) t.line t.reply (state_from come) v'
      → IsTurned members places t ws contents views states most v'
  joined_turn come v' goes =
      let its = are.told goes.bytes (come goes.bytes goes.epoch goes.gives goes.told) in
      let v : HostView = views t.host in
      let passed : List (List (List ℕ)) = its.state.passed in
      let epoch : goes.epoch ≡ length passed + 1 = goes.is in
      let further : number v < length passed + 1 = subst (λ (n : ℕ). number v < n) epoch goes.above in
      let begun : AreBegun (Hold (contents t.host)) (first_lacked (number v) (length passed + 1)) (length passed + 1 + 1) goes.contents =
      subst (λ (n : ℕ). AreBegun (Hold (contents t.host)) (first_lacked (number v) n) (n + 1) goes.contents) epoch goes.begun in
      let few : length passed + 1 ≤ most = its.few in
      let moves : v' ≡ joined_at places v passed goes.contents = goes.moves in
      quiet members places t ws contents views states most v' are (record {
        none = λ e. ap (is_done_in e) goes.told;
        nothing = λ e. ap (letters_in e) goes.told;
        nodes = λ e. ap (λ (u : HostView). u.nodes e) moves
            ∙ join_nodes (contents t.host) goes.contents places v passed (are.above t.host within) further begun.begun e;
        knows = subst (λ (u : HostView). Knows members ws (known u)) (sym moves) (knows_push members ws passed [] its.knows (λ i x at. absurd (cc (at))));
        full = subst (λ (u : HostView). AreFull places u.passed) (sym moves) its.state.full;
        further = subst (λ (u : HostView). number v ≤ number u) (sym moves) (omega (arith, further));
        low = subst (λ (u : HostView). number u ≤ most + 1) (sym moves) (omega (arith, few));
        states = no_states (ap states_in goes.told);
        printed = none_printed places v' t.reply (ap outputs_in goes.told);
        again = not_again v' (ap again_in goes.told);
      })

  -- what a line without a number asked
  alone_turn : (come : IsTold states t) (v' : HostView) → AloneAs (Hold (contents t.host)) AnyFault members t.host places (views t.host) t.line t.reply (state_from come) v' → IsTurned members places t ws contents views states most v'
  alone_turn come v' (inl asked) = elim asked.told [
    | inl said ↦ state_turn said.0 v' said.1 asked.same said.2
    | inr lacks ↦ failed_turn OutOfMemory v' asked.same lacks
  ]
  alone_turn come v' (inr (inl asked)) = elim asked.told [
    | inl said ↦ again_turn said.0 v' said.1 asked.same said.2
    | inr lacks ↦ failed_turn OutOfMemory v' asked.same lacks
  ]
  alone_turn come v' (inr (inr (inl goes))) = joined_turn come v' goes
  alone_turn come v' (inr (inr (inr stays))) = elim stays.told [
    | inl none ↦
        same_turn v' stays.same (plain_by t.reply NoState none (record { none = λ e. refl; nothing = λ e. refl; silent = refl; stateless = refl; unsaid = refl }))
    | inr fails ↦ failed_turn fails.0 v' stays.same fails.2
  ]

  -- whatever it was
  pub turned : (come : IsTold states t) (v' : HostView) → ((e : ℕ) (l : Letter) (came : Acted) → DoesIn t e (request.Letter l) came → (l.to ≡ t.host) × Contains (ws e).letters l)
      → RepliesAs (Hold (contents t.host)) AnyFault members t.host places (views t.host) t.line t.reply (state_from come) v' → IsTurned members places t ws contents views states most v'
  turned come v' comes (inl acts) = numbered_turn acts.number acts.rest acts.ask acts.acted v' comes acts.numbered acts.behind acts.moves acts.told
  turned come v' comes (inr (inl releases)) = released_turn releases.now releases.given v' releases.moves releases.told
  turned come v' comes (inr (inr (inl asked))) = alone_turn come v' asked
  turned come v' comes (inr (inr (inr away))) =
      same_turn v' away.same (plain_by t.reply (AsNode (node_reply.Refused away.why)) away.told (record { none = λ e. refl; nothing = λ e. refl; silent = refl; stateless = refl; unsaid = refl }))
