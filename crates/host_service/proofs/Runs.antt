-- A host that replies to lines, seen by where it stands.
use Rattle.std.proofs.Common.{◌≡◌, ◌⊎◌, ◌∙◌, inl, inr, ℕ, zero, suc, ◌+◌, ◌<◌, List, [], ◌∷◌, ◌++◌, length, All, Result}
use Rattle.std.proofs.Common.{Ok, Err, arith, refl, sym, ap, subst}
use Rattle.std.specs.Prelude.{IfOk, Vec}
use Rattle.std.specs.declared.alloc.AllocError.{AllocError}
use Rattle.std.specs.declared.alloc.Global.{Global}
use Rattle.std.proofs.lemmas.List.Elements.{All-cons, All-head, All-nil, All-tail}
use Rattle.hosts.proofs.Callers.{is_asked_near, is_gone}
use Rattle.hosts.specs.Acting.{IsRefusedSo}
use Rattle.grant_machine.specs.declared.output.Output.{Output}
use Rattle.acceptor.specs.Content.{Content}
use Rattle.hosts.specs.Hosts.{AreMembers, IsHonest, SameHost, StandsAs, begins_of, member_of, number_of, places_of}
use Rattle.hosts.specs.Joining.{Joins}
use Rattle.hosts.specs.States.{IsStateOf}
use Rattle.hosts.specs.Views.{AreBegun, GoesFrom, HostView, MovesIn, Releases, TellsAgain, first_lacked}
use Rattle.hosts.specs.Views.{joined as joined_at, number as number_at}
use Rattle.hosts.specs.declared.acted.Given.{Given}
use Rattle.hosts.specs.declared.acted.Given.TheVariants.{Outputs, Failed}
use Rattle.hosts.specs.declared.acted.HostActed.{HostActed}
use Rattle.hosts.specs.declared.acted.HostActed.TheVariants.{Of, Ended, Ahead, Gone, OtherPlaces}
use Rattle.hosts.specs.declared.fault.JoinFault.{JoinFault}
use Rattle.hosts.specs.declared.fault.JoinFault.TheVariants as cant_join
use Rattle.hosts.specs.declared.host.Host.{Host}
use Rattle.hosts.specs.declared.opens.Opens.{Ghosts}
use Rattle.node.specs.declared.node.Node.{Ghosts as Nodes}
use Rattle.node_lines.specs.Input.{IsLine}
use Rattle.node_lines.specs.declared.fault.LineFault.{LineFault}
use Rattle.node_lines.specs.declared.request.Request.{Request}
use Rattle.node_service.specs.Batched.{BatchedTurns, Commits, IsCameOf, LineTurn, UnkeptTurns}
use Rattle.node_service.specs.Seated.{asked_of}
use Rattle.node_service.specs.declared.lines.Lines.{Ghosts as Inputs}
use Rattle.proposer.specs.declared.fault.NodeFault.{NodeFault}
use Rattle.proposer.specs.declared.fault.NodeFault.TheVariants.{OutOfMemory}
use Rattle.seats.specs.Moves.Ask.{Crash}
use Rattle.seats.specs.Occupant.{node_of}
use Rattle.host_service.specs.Asking.{AsksHost}
use Rattle.host_service.specs.Numbers.{HasNoNumber, IsNumbered}
use Rattle.host_service.specs.Replying.{DoesAsked, IsAskedOfNode, JoinsSo, RepliesAlone, RepliesIn, RepliesTo}
use Rattle.host_service.specs.Replying.{again_reply, fault_reply, host_keeper, host_of, join_reply, state_reply}
use Rattle.host_service.specs.Replying.{state_told}
use Rattle.host_service.specs.Serving.{Gives, IsBehind, IsToldAt, LivesAs, NeverLie, RepliesAs}
use Rattle.host_service.specs.declared.asked.HostRequest.{HostRequest}
use Rattle.host_service.specs.declared.asked.HostRequest.TheVariants as host_asked
use Rattle.host_service.specs.declared.number.EpochNumber.{EpochNumber}
use Rattle.host_service.specs.declared.reply.HostReply.{HostReply}
use Rattle.host_service.specs.declared.reply.HostReply.TheVariants.{There, Begins, InEpoch, Released, State}
use Rattle.host_service.specs.declared.reply.HostReply.TheVariants.{StateTooLong, Joined, NoState, Again, AsNode}
use Rattle.host_service.specs.declared.service.HostServer.{HostServer}

-- the same host, with all that is said of where it stands
record Goes {O N : Type 0} {g : Ghosts O N} {h : Nodes N} (old : Host O N g h) (line : List ℕ) (replied : HostReply) (new : Host O N g h) (v : HostView) (past : IsToldAt (member_of old).1 (places_of old) line replied) : Type 0 where
  view : HostView
  replies : RepliesAs (begins_of old) g.may_fail (member_of old).1 (member_of old).0 (places_of old) v line replied past view
  stands : StandsAs new view

honest_host : {O N : Type 0} {g : Ghosts O N} {h : Nodes N} → NeverLie h → (host : Host O N g h) → IsHonest host
honest_host never host = λ e seat at. never (node_of seat)

-- what the number refuses moves nothing, whatever is asked
refused_moves : {O N : Type 0} {g : Ghosts O N} {h : Nodes N} (host : Host O N g h) (members me e said : ℕ) (acted : HostActed) (v : HostView) → IsRefusedSo host e said acted → StandsAs host v
    → MovesIn members me (places_of host) v e said Crash acted v
refused_moves host members me e said (Of acted) v refused stands = absurd refused
refused_moves host members me e said Ended v refused stands = absurd refused
refused_moves host members me e said Ahead v refused stands = (refused.0, subst (λ n. n + 1 < e) stands.epoch refused.1, refl)
refused_moves host members me e said Gone v refused stands = (refused.0, is_gone host v stands e refused.1, refl)
refused_moves host members me e said OtherPlaces v refused stands = (refused, refl)

refused_behind : {O N : Type 0} {g : Ghosts O N} {h : Nodes N} (host : Host O N g h) (e said : ℕ) (rest : List ℕ) (acted : HostActed) → IsRefusedSo host e said acted → IsBehind rest acted Crash
refused_behind host e said rest (Of acted) refused = absurd refused
refused_behind host e said rest Ended refused = absurd refused
refused_behind host e said rest Ahead refused = tt
refused_behind host e said rest Gone refused = tt
refused_behind host e said rest OtherPlaces refused = tt

asked_behind : (rest : List ℕ) (acted : HostActed) (asked : Request) → IsAskedOfNode rest asked → IsBehind rest acted (asked_of asked)
asked_behind rest (Of acted) asked asks = (asked, asks, refl)
asked_behind rest Ended asked asks = (asked, asks, refl)
asked_behind rest Ahead asked asks = tt
asked_behind rest Gone asked asks = tt
asked_behind rest OtherPlaces asked asks = tt

-- a host that stays stands as before
stays : {O N : Type 0} {g : Ghosts O N} {h : Nodes N} (old new : Host O N g h) (v : HostView) → new ≡ old → StandsAs old v → StandsAs new v
stays {O} {N} {g} {h} old new v same stands = subst (λ (x : Host O N g h). StandsAs x v) (sym same) stands

goes_in : {O N : Type 0} {g : Ghosts O N} {h : Nodes N} (old : Host O N g h) (line : List ℕ) (n : EpochNumber) (rest : List ℕ) (replied : HostReply) (new : Host O N g h) (v : HostView) (past : IsToldAt (member_of old).1 (places_of old) line replied)
    → IsNumbered line n rest → RepliesIn old n rest replied new → NeverLie h → AreMembers old → StandsAs old v → Goes old line replied new v past
goes_in old line n rest (There id count many) new v past numbered replies never members stands = absurd replies
goes_in old line n rest (Begins id count many begins) new v past numbered replies never members stands = absurd replies
goes_in old line n rest (InEpoch m acted) new v past numbered (is, inl (refused, same)) never members stands = record {
  view = v;
  replies = inl (record {
    number = n;
    rest = rest;
    ask = Crash;
    acted = acted;
    numbered = numbered;
    behind = refused_behind old n.epoch n.places rest acted refused;
    moves = refused_moves old (member_of old).1 (member_of old).0 n.epoch n.places acted v refused stands;
    told = ap (λ (x : EpochNumber). InEpoch x acted) is;
  });
  stands = stays old new v same stands;
}
goes_in old line n rest (InEpoch m acted) new v past numbered (is, inr done) never members stands =
    let moved = done.acts.moves (honest_host never new) members v stands in
    record {
      view = moved.0;
      replies = inl (record {
        number = n;
        rest = rest;
        ask = asked_of done.asked;
        acted = acted;
        numbered = numbered;
        behind = asked_behind rest acted done.asked done.asks;
        moves = moved.1;
        told = ap (λ (x : EpochNumber). InEpoch x acted) is;
      });
      stands = moved.2;
    }
goes_in old line n rest (Released told next place) new v past numbered replies never members stands = absurd replies
goes_in old line n rest (State bytes) new v past numbered replies never members stands = absurd replies
goes_in old line n rest StateTooLong new v past numbered replies never members stands = absurd replies
goes_in old line n rest (Joined epoch) new v past numbered replies never members stands = absurd replies
goes_in old line n rest NoState new v past numbered replies never members stands = absurd replies
goes_in old line n rest (Again outputs) new v past numbered replies never members stands = absurd replies
goes_in old line n rest (AsNode told) new v past numbered (near, (why, is, nothing, same)) never members stands = record {
  view = v;
  replies = inr (inr (inr (record {
    why = why;
    unasked = inr (inl (n, rest, numbered, near.places, is_asked_near old v stands n.epoch n.places near, nothing));
    told = ap AsNode is;
    same = refl;
  })));
  stands = stays old new v same stands;
}

-- what is told of a state, or of outputs
state_as : (members me places : ℕ) (v : HostView) (state : Result (Vec ℕ Global) AllocError) (replied : HostReply) → IfOk state (λ bytes. IsStateOf me members places v.passed bytes.items)
    → replied ≡ state_reply state → ((bytes : List ℕ) × IsStateOf me members places v.passed bytes × (replied ≡ state_told bytes)) ⊎ (replied ≡ fault_reply OutOfMemory)
state_as members me places v (Ok bytes) replied is told = inl (bytes.items, is, told)
state_as members me places v (Err lack) replied is told = inr told

again_as : (places : ℕ) (v : HostView) (outputs : Result (Vec Output Global) AllocError) (replied : HostReply) → IfOk outputs (λ outputs. TellsAgain places v outputs.items)
    → replied ≡ again_reply outputs → ((all : Vec Output Global) × TellsAgain places v all.items × (replied ≡ Again all)) ⊎ (replied ≡ fault_reply OutOfMemory)
again_as places v (Ok outputs) replied is told = inl (outputs, is, told)
again_as places v (Err lack) replied is told = inr told

-- the epoch of a state to which it went is above its own one
above : {O N : Type 0} {g : Ghosts O N} {h : Nodes N} (old new : Host O N g h) (bytes : List ℕ) (v : HostView) → Joins old bytes new → StandsAs old v → number_at v < number_of new
above old new bytes v (head, rows, state, can, begins) stands = omega (arith, can.above, begins.enters.number, stands.epoch)

-- the epochs whose nodes were opened, by the number of the one that it goes to
begun_at : (begins : ℕ → Content → Type 0) (v : HostView) (e n : ℕ) (contents : ℕ → Content) → e ≡ n + 1 → AreBegun begins (first_lacked (number_at v) (n + 1)) (n + 2) contents
    → AreBegun begins (first_lacked (number_at v) e) (e + 1) contents
begun_at begins v e n contents is begun =
    let last : n + 2 ≡ e + 1 = omega (arith, is) in
    subst (λ (l : ℕ). AreBegun begins (first_lacked (number_at v) e) l contents) last
    (subst (λ (f : ℕ). AreBegun begins (first_lacked (number_at v) f) (n + 2) contents) (sym is) begun)

goes_to : {O N : Type 0} {g : Ghosts O N} {h : Nodes N} (old : Host O N g h) (line bytes : List ℕ) (joined : Result (Unit {0}) JoinFault) (replied : HostReply) (new : Host O N g h) (v : HostView) (past : IsToldAt (member_of old).1 (places_of old) line replied)
    → Gives line bytes → JoinsSo old bytes joined new → replied ≡ join_reply (number_of new) joined → NeverLie h → StandsAs old v → Goes old line replied new v past
goes_to old line bytes (Ok done) replied new v past gives joins told never stands =
    let state = past bytes (number_of new) gives told in
    let went = joins.moves (honest_host never new) v stands state.teller state.passed state.full state.is in
    record {
      view = joined_at (places_of old) v state.passed went.0;
      replies = inr (inr (inl (inr (inr (inl (record {
        bytes = bytes;
        epoch = number_of new;
        gives = gives;
        told = told;
        above = above old new bytes v joins.joins stands;
        is = went.2.epoch;
        contents = went.0;
        begun = begun_at (begins_of old) v (number_of new) (length state.passed) went.0 went.2.epoch went.1;
        moves = refl;
      }))))));
      stands = went.2;
    }
goes_to old line bytes (Err cant_join.NoState) replied new v past gives joins told never stands = record {
  view = v;
  replies = inr (inr (inl (inr (inr (inr (record { bytes = bytes; gives = gives; told = inl told; same = refl }))))));
  stands = joins.moves (honest_host never new) v stands;
}
goes_to old line bytes (Err (cant_join.Node why)) replied new v past gives joins told never stands = record {
  view = v;
  replies = inr (inr (inl (inr (inr (inr (record { bytes = bytes; gives = gives; told = inr (why, joins.stays.1, told); same = refl }))))));
  stands = joins.moves (honest_host never new) v stands;
}

goes_asked : {O N : Type 0} {g : Ghosts O N} {h : Nodes N} (old : Host O N g h) (line : List ℕ) (asked : HostRequest) (replied : HostReply) (new : Host O N g h) (v : HostView) (past : IsToldAt (member_of old).1 (places_of old) line replied)
    → HasNoNumber line → AsksHost line asked → DoesAsked old asked replied new → NeverLie h → StandsAs old v → Goes old line replied new v past
goes_asked old line (host_asked.Release now) replied new v past none asks (given, releases, told) never stands =
    let moved = releases.moves (honest_host never new) v stands in
    record { view = moved.0; replies = inr (inl (record { now = now; given = given; asks = asks; moves = moved.1; told = told })); stands = moved.2 }
goes_asked old line host_asked.State replied new v past none asks (state, states, told, same) never stands =
    let said = state_as (member_of old).1 (member_of old).0 (places_of old) v state replied (states.is v stands) told in
    record { view = v; replies = inr (inr (inl (inl (record { bare = none; asks = asks; told = said; same = refl })))); stands = stays old new v same stands }
goes_asked old line (host_asked.Join bytes) replied new v past none asks (joined, joins, told) never stands =
    goes_to old line bytes joined replied new v past (record { bare = none; asks = asks }) joins told never stands
goes_asked old line host_asked.Again replied new v past none asks (outputs, again, told, same) never stands =
    let said = again_as (places_of old) v outputs replied (again.is v stands) told in
    record { view = v; replies = inr (inr (inl (inr (inl (record { bare = none; asks = asks; told = said; same = refl }))))); stands = stays old new v same stands }

goes_alone : {O N : Type 0} {g : Ghosts O N} {h : Nodes N} (old : Host O N g h) (line : List ℕ) (replied : HostReply) (new : Host O N g h) (v : HostView) (past : IsToldAt (member_of old).1 (places_of old) line replied)
    → HasNoNumber line → RepliesAlone old line replied new → NeverLie h → StandsAs old v → Goes old line replied new v past
goes_alone old line replied new v past none (inl (asked, asks, kept, does)) never stands = goes_asked old line asked replied new v past none asks does never stands
goes_alone old line replied new v past none (inr (why, nothing, told, same)) never stands =
    record { view = v; replies = inr (inr (inr (record { why = why; unasked = inr (inr (none, nothing)); told = told; same = refl }))); stands = stays old new v same stands }

goes : {O N : Type 0} {g : Ghosts O N} {h : Nodes N} (old : Host O N g h) (came : Result (List ℕ) LineFault) (line : List ℕ) (replied : HostReply) (new : Host O N g h) (v : HostView) (past : IsToldAt (member_of old).1 (places_of old) line replied)
    → IsCameOf line came → RepliesTo old came replied new → NeverLie h → AreMembers old → StandsAs old v → Goes old line replied new v past
goes old (Ok kept) line replied new v past is (inl (n, rest, numbered, replies)) never members stands =
    goes_in old line n rest replied new v past (subst (λ x. IsNumbered x n rest) is.0 numbered) replies never members stands
goes old (Ok kept) line replied new v past is (inr (none, replies)) never members stands =
    goes_alone old line replied new v past (subst (λ x. HasNoNumber x) is.0 none) (subst (λ x. RepliesAlone old x replied new) is.0 replies) never stands
goes old (Err why) line replied new v past is (told, same) never members stands =
    record { view = v; replies = inr (inr (inr (record { why = why; unasked = inl is; told = told; same = refl }))); stands = stays old new v same stands }

-- what a reply leaves as it was
record Keeps {O N : Type 0} {g : Ghosts O N} {h : Nodes N} (old new : Host O N g h) : Type 0 where
  same : SameHost old new
  members : AreMembers old → AreMembers new

keeps_all : {O N : Type 0} {g : Ghosts O N} {h : Nodes N} (old new : Host O N g h) → new ≡ old → Keeps old new
keeps_all {O} {N} {g} {h} old new same =
    subst (λ (x : Host O N g h). Keeps old x) (sym same) (record { same = record { member = refl; places = refl; begins = λ e c begins. begins }; members = λ members. members })

keeps_in : {O N : Type 0} {g : Ghosts O N} {h : Nodes N} (old : Host O N g h) (n : EpochNumber) (rest : List ℕ) (replied : HostReply) (new : Host O N g h) → RepliesIn old n rest replied new → Keeps old new
keeps_in old n rest (There id count many) new replies = absurd replies
keeps_in old n rest (Begins id count many begins) new replies = absurd replies
keeps_in old n rest (InEpoch m acted) new (is, inl (refused, same)) = keeps_all old new same
keeps_in old n rest (InEpoch m acted) new (is, inr done) = record { same = done.acts.same; members = done.acts.members }
keeps_in old n rest (Released told next place) new replies = absurd replies
keeps_in old n rest (State bytes) new replies = absurd replies
keeps_in old n rest StateTooLong new replies = absurd replies
keeps_in old n rest (Joined epoch) new replies = absurd replies
keeps_in old n rest NoState new replies = absurd replies
keeps_in old n rest (Again outputs) new replies = absurd replies
keeps_in old n rest (AsNode told) new (near, (why, is, nothing, same)) = keeps_all old new same

keeps_asked : {O N : Type 0} {g : Ghosts O N} {h : Nodes N} (old : Host O N g h) (asked : HostRequest) (replied : HostReply) (new : Host O N g h) → DoesAsked old asked replied new → Keeps old new
keeps_asked old (host_asked.Release now) replied new (given, releases, told) = record { same = releases.same; members = releases.members }
keeps_asked old host_asked.State replied new (state, states, told, same) = keeps_all old new same
keeps_asked old (host_asked.Join bytes) replied new (joined, joins, told) = record { same = joins.same; members = joins.members }
keeps_asked old host_asked.Again replied new (outputs, again, told, same) = keeps_all old new same

keeps : {O N : Type 0} {g : Ghosts O N} {h : Nodes N} (old : Host O N g h) (came : Result (List ℕ) LineFault) (replied : HostReply) (new : Host O N g h) → RepliesTo old came replied new → Keeps old new
keeps old (Ok line) replied new (inl (n, rest, numbered, replies)) = keeps_in old n rest replied new replies
keeps old (Ok line) replied new (inr (none, inl (asked, asks, kept, does))) = keeps_asked old asked replied new does
keeps old (Ok line) replied new (inr (none, inr (why, nothing, told, same))) = keeps_all old new same
keeps old (Err why) replied new (told, same) = keeps_all old new same

-- a host that stands somewhere, a member of so many, with so many places in an epoch, whose nodes may begin so
pub record IsThere {O N : Type 0} {g : Ghosts O N} {h : Nodes N} (host : Host O N g h) (begins : ℕ → Content → Type 0) (members me places : ℕ) (v : HostView) : Type 0 where
  pub who : member_of host ≡ (me, members)
  pub many : places_of host ≡ places
  pub over : (e : ℕ) (c : Content) → begins_of host e c → begins e c
  pub are : AreMembers host
  pub stands : StandsAs host v

-- lines were done from v on, as long as each state to which the host went was told, and this holds of where it is then
abbrev pub LivesTo : (HostView → Type 0) → (ℕ → Content → Type 0) → (NodeFault → Type 0) → (members me places : ℕ) → HostView → List (List ℕ × HostReply) → Type 0
LivesTo P begins may_fail members me places v [] = P v
LivesTo P begins may_fail members me places v (turn ∷ turns) =
    (past : IsToldAt members places turn.0 turn.1)
    → (between : HostView) × RepliesAs begins may_fail members me places v turn.0 turn.1 past between × LivesTo P begins may_fail members me places between turns

-- the same with where the host is in the end
abbrev pub Runs : {O N : Type 0} {g : Ghosts O N} {h : Nodes N} → Host O N g h → (ℕ → Content → Type 0) → (members me places : ℕ) → HostView → List (List ℕ × HostReply) → Type 0
Runs {O} {N} {g} {h} host begins members me places v turns = LivesTo (IsThere host begins members me places) begins g.may_fail members me places v turns

-- some lines, and then others
pub runs_on : (P Q : HostView → Type 0) (begins : ℕ → Content → Type 0) (may_fail : NodeFault → Type 0) (members me places : ℕ) (v : HostView) (turns later : List (List ℕ × HostReply))
    → LivesTo P begins may_fail members me places v turns → ((u : HostView) → P u → LivesTo Q begins may_fail members me places u later) → LivesTo Q begins may_fail members me places v (turns ++ later)
runs_on P Q begins may_fail members me places v [] later there on = on v there
runs_on P Q begins may_fail members me places v (turn ∷ turns) later lives on = λ past.
    let one = lives past in
    (one.0, one.1, runs_on P Q begins may_fail members me places one.0 turns later one.2 on)

pub lives_as : (P : HostView → Type 0) (begins : ℕ → Content → Type 0) (may_fail : NodeFault → Type 0) (members me places : ℕ) (v : HostView) (turns : List (List ℕ × HostReply))
    → LivesTo P begins may_fail members me places v turns → LivesAs begins may_fail members me places v turns
lives_as P begins may_fail members me places v [] there = tt
lives_as P begins may_fail members me places v (turn ∷ turns) lives = λ past.
    let one = lives past in
    (one.0, one.1, lives_as P begins may_fail members me places one.0 turns one.2)

-- what is so where nodes begin so is so where they may begin over more
from_over : (begins more : ℕ → Content → Type 0) (places : ℕ) (v w : HostView) → ((e : ℕ) (c : Content) → begins e c → more e c) → GoesFrom begins places v w → GoesFrom more places v w
from_over begins more places v w over (inl (passed, (c, begun, is))) = inl (passed, (c, over (number_at v + 2) c begun, is))
from_over begins more places v w over (inr stays) = inr stays

releases_over : (begins more : ℕ → Content → Type 0) (may_fail : NodeFault → Type 0) (places : ℕ) (v : HostView) (now : ℕ) (given : Given) (v' : HostView)
    → ((e : ℕ) (c : Content) → begins e c → more e c) → Releases begins may_fail places v now given v' → Releases more may_fail places v now given v'
releases_over begins more may_fail places v now (Outputs outputs epoch place) v' over (w, goes, rest) = (w, from_over begins more places v w over goes, rest)
releases_over begins more may_fail places v now (Failed fault) v' over (inl stays) = inl stays
releases_over begins more may_fail places v now (Failed fault) v' over (inr (w, goes, rest)) = inr (w, from_over begins more places v w over goes, rest)

begun_over : (begins more : ℕ → Content → Type 0) (first last : ℕ) (contents : ℕ → Content) → ((e : ℕ) (c : Content) → begins e c → more e c) → AreBegun begins first last contents → AreBegun more first last contents
begun_over begins more first last contents over are =
    record { begun = λ e low high. over e (contents e) (are.begun e low high); others = are.others }

replies_over : (begins more : ℕ → Content → Type 0) (may_fail : NodeFault → Type 0) (members me places : ℕ) (v : HostView) (line : List ℕ) (replied : HostReply) (past : IsToldAt members places line replied) (v' : HostView)
    → ((e : ℕ) (c : Content) → begins e c → more e c) → RepliesAs begins may_fail members me places v line replied past v' → RepliesAs more may_fail members me places v line replied past v'
replies_over begins more may_fail members me places v line replied past v' over (inl acts) = inl acts
replies_over begins more may_fail members me places v line replied past v' over (inr (inl r)) = inr (inl (record {
  now = r.now;
  given = r.given;
  asks = r.asks;
  moves = releases_over begins more may_fail places v r.now r.given v' over r.moves;
  told = r.told;
}))
replies_over begins more may_fail members me places v line replied past v' over (inr (inr (inl (inl states)))) = inr (inr (inl (inl states)))
replies_over begins more may_fail members me places v line replied past v' over (inr (inr (inl (inr (inl again))))) = inr (inr (inl (inr (inl again))))
replies_over begins more may_fail members me places v line replied past v' over (inr (inr (inl (inr (inr (inl goes)))))) = inr (inr (inl (inr (inr (inl (record {
  bytes = goes.bytes;
  epoch = goes.epoch;
  gives = goes.gives;
  told = goes.told;
  above = goes.above;
  is = goes.is;
  contents = goes.contents;
  begun = begun_over begins more (first_lacked (number_at v) goes.epoch) (goes.epoch + 1) goes.contents over goes.begun;
  moves = goes.moves;
}))))))
replies_over begins more may_fail members me places v line replied past v' over (inr (inr (inl (inr (inr (inr stays)))))) = inr (inr (inl (inr (inr (inr stays)))))
replies_over begins more may_fail members me places v line replied past v' over (inr (inr (inr turns_away))) = inr (inr (inr turns_away))

there_still : {O N : Type 0} {g : Ghosts O N} {h : Nodes N} (a b : HostServer O N g h) (begins : ℕ → Content → Type 0) (members me places : ℕ) (v : HostView)
    → b ≡ a → IsThere (host_of a) begins members me places v → IsThere (host_of b) begins members me places v
there_still {O} {N} {g} {h} a b begins members me places v same there =
    subst (λ (x : HostServer O N g h). IsThere (host_of x) begins members me places v) (sym same) there

-- commits leave it where it stands
there_kept : {O N : Type 0} {g : Ghosts O N} {h : Nodes N} (n : ℕ) (a b : HostServer O N g h) (begins : ℕ → Content → Type 0) (members me places : ℕ) (v : HostView)
    → Commits host_keeper n a b → IsThere (host_of a) begins members me places v → IsThere (host_of b) begins members me places v
there_kept zero a b begins members me places v same there = there_still a b begins members me places v same there
there_kept (suc n) a b begins members me places v (between, one, others) there = there_kept n between b begins members me places v others (record {
  who = one.same.member ∙ there.who;
  many = one.same.places ∙ there.many;
  over = λ e c begun. there.over e c (one.same.begins e c begun);
  are = one.members there.are;
  stands = one.stands v there.stands;
})

-- one line was done, by host me of so many members, with so many places in an epoch
abbrev TurnsSo : {O N : Type 0} {g : Ghosts O N} {h : Nodes N} → Host O N g h → (ℕ → Content → Type 0) → (who : ℕ × ℕ) (places : ℕ) → HostView → List ℕ → HostReply → Type 0
TurnsSo {O} {N} {g} {h} new begins who places v line replied =
    (past : IsToldAt who.1 places line replied) → (v' : HostView) × RepliesAs begins g.may_fail who.1 who.0 places v line replied past v' × IsThere new begins who.1 who.0 places v'

own_turn : {O N I : Type 0} {g : Ghosts O N} {h : Nodes N} (input : Inputs I) (line : List ℕ) (replied : HostReply) (a : HostServer O N g h) (i : I) (b : HostServer O N g h) (j : I) (begins : ℕ → Content → Type 0) (v : HostView)
    → LineTurn host_keeper input line replied a i b j → NeverLie h → ((e : ℕ) (c : Content) → begins_of (host_of a) e c → begins e c) → AreMembers (host_of a) → StandsAs (host_of a) v
    → TurnsSo (host_of b) begins (member_of (host_of a)) (places_of (host_of a)) v line replied
own_turn {O} {N} {I} {g} {h} input line replied a i b j begins v turn never over members stands = λ past.
    let done = goes (host_of a) turn.came line replied (host_of b) v past turn.is turn.replies never members stands in
    let kept = keeps (host_of a) turn.came replied (host_of b) turn.replies in (
      done.view,
      replies_over (begins_of (host_of a)) begins g.may_fail (member_of (host_of a)).1 (member_of (host_of a)).0 (places_of (host_of a)) v line replied past done.view over done.replies,
      record {
        who = kept.same.member;
        many = kept.same.places;
        over = λ e c begun. over e c (kept.same.begins e c begun);
        are = kept.members members;
        stands = done.stands;
      },
    )

one_turn : {O N I : Type 0} {g : Ghosts O N} {h : Nodes N} (input : Inputs I) (line : List ℕ) (replied : HostReply) (a : HostServer O N g h) (i : I) (b : HostServer O N g h) (j : I) (begins : ℕ → Content → Type 0) (members me places : ℕ) (v : HostView)
    → LineTurn host_keeper input line replied a i b j → NeverLie h → IsThere (host_of a) begins members me places v → TurnsSo (host_of b) begins (me, members) places v line replied
one_turn input line replied a i b j begins members me places v turn never there =
    subst (λ p. TurnsSo (host_of b) begins (me, members) p v line replied) there.many
    (subst (λ m. TurnsSo (host_of b) begins m (places_of (host_of a)) v line replied) there.who (own_turn input line replied a i b j begins v turn never there.over there.are there.stands))

pub unkept_runs : {O N I : Type 0} {g : Ghosts O N} {h : Nodes N} (input : Inputs I) (turns : List (List ℕ × HostReply)) (a : HostServer O N g h) (i : I) (b : HostServer O N g h) (j : I) (begins : ℕ → Content → Type 0) (members me places : ℕ) (v : HostView)
    → UnkeptTurns host_keeper input turns a i b j → NeverLie h → IsThere (host_of a) begins members me places v → Runs (host_of b) begins members me places v turns
unkept_runs input [] a i b j begins members me places v (same, left) never there = there_still a b begins members me places v same there
unkept_runs input (turn ∷ turns) a i b j begins members me places v (between, rest, one, others) never there = λ past.
    let first = one_turn input turn.0 turn.1 a i between rest begins members me places v one never there past in
    (first.0, first.1, unkept_runs input turns between rest b j begins members me places first.0 others never first.2)

pub batched_runs : {O N I : Type 0} {g : Ghosts O N} {h : Nodes N} (input : Inputs I) (turns : List (List ℕ × HostReply)) (a : HostServer O N g h) (i : I) (b : HostServer O N g h) (j : I) (begins : ℕ → Content → Type 0) (members me places : ℕ) (v : HostView)
    → BatchedTurns host_keeper input turns a i b j → NeverLie h → IsThere (host_of a) begins members me places v → Runs (host_of b) begins members me places v turns
batched_runs input [] a i b j begins members me places v (n, commits, left) never there = there_kept n a b begins members me places v commits there
batched_runs {O} {N} {I} {g} {h} input (turn ∷ turns) a i b j begins members me places v (n, before, after, rest, commits, one, others) never there = λ past.
    let here = there_kept n a before begins members me places v commits there in
    let first = one_turn input turn.0 turn.1 before i after rest begins members me places v one never here past in
    (first.0, first.1, batched_runs input turns after rest b j begins members me places first.0 others never first.2)

-- the places of an epoch stay as many
commits_places : {O N : Type 0} {g : Ghosts O N} {h : Nodes N} (n : ℕ) (a b : HostServer O N g h) → Commits host_keeper n a b → places_of (host_of b) ≡ places_of (host_of a)
commits_places {O} {N} {g} {h} zero a b same = ap (λ (x : HostServer O N g h). places_of (host_of x)) same
commits_places (suc n) a b (between, one, others) = commits_places n between b others ∙ one.same.places

turn_places : {O N I : Type 0} {g : Ghosts O N} {h : Nodes N} (input : Inputs I) (line : List ℕ) (replied : HostReply) (a : HostServer O N g h) (i : I) (b : HostServer O N g h) (j : I)
    → LineTurn host_keeper input line replied a i b j → places_of (host_of b) ≡ places_of (host_of a)
turn_places input line replied a i b j turn = (keeps (host_of a) turn.came replied (host_of b) turn.replies).same.places

pub unkept_places : {O N I : Type 0} {g : Ghosts O N} {h : Nodes N} (input : Inputs I) (turns : List (List ℕ × HostReply)) (a : HostServer O N g h) (i : I) (b : HostServer O N g h) (j : I)
    → UnkeptTurns host_keeper input turns a i b j → places_of (host_of b) ≡ places_of (host_of a)
unkept_places {O} {N} {I} {g} {h} input [] a i b j (same, left) = ap (λ (x : HostServer O N g h). places_of (host_of x)) same
unkept_places input (turn ∷ turns) a i b j (between, rest, one, others) =
    unkept_places input turns between rest b j others ∙ turn_places input turn.0 turn.1 a i between rest one

pub batched_places : {O N I : Type 0} {g : Ghosts O N} {h : Nodes N} (input : Inputs I) (turns : List (List ℕ × HostReply)) (a : HostServer O N g h) (i : I) (b : HostServer O N g h) (j : I)
    → BatchedTurns host_keeper input turns a i b j → places_of (host_of b) ≡ places_of (host_of a)
batched_places input [] a i b j (n, commits, left) = commits_places n a b commits
batched_places input (turn ∷ turns) a i b j (n, before, after, rest, commits, one, others) =
    batched_places input turns after rest b j others ∙ (turn_places input turn.0 turn.1 before i after rest one ∙ commits_places n a before commits)

-- each line was whole
pub unkept_whole : {O N I : Type 0} {g : Ghosts O N} {h : Nodes N} (input : Inputs I) (turns : List (List ℕ × HostReply)) (a : HostServer O N g h) (i : I) (b : HostServer O N g h) (j : I)
    → UnkeptTurns host_keeper input turns a i b j → All (λ turn. IsLine turn.0) turns
unkept_whole input [] a i b j turned = All-nil (λ turn. IsLine turn.0)
unkept_whole input (turn ∷ turns) a i b j (between, rest, one, others) =
    All-cons (λ turn. IsLine turn.0) turn turns one.whole (unkept_whole input turns between rest b j others)

pub batched_whole : {O N I : Type 0} {g : Ghosts O N} {h : Nodes N} (input : Inputs I) (turns : List (List ℕ × HostReply)) (a : HostServer O N g h) (i : I) (b : HostServer O N g h) (j : I)
    → BatchedTurns host_keeper input turns a i b j → All (λ turn. IsLine turn.0) turns
batched_whole input [] a i b j turned = All-nil (λ turn. IsLine turn.0)
batched_whole input (turn ∷ turns) a i b j (n, before, after, rest, commits, one, others) =
    All-cons (λ turn. IsLine turn.0) turn turns one.whole (batched_whole input turns after rest b j others)

pub both_whole : (turns later : List (List ℕ × HostReply)) → All (λ turn. IsLine turn.0) turns → All (λ turn. IsLine turn.0) later → All (λ turn. IsLine turn.0) (turns ++ later)
both_whole [] later whole more = more
both_whole (turn ∷ turns) later whole more =
    All-cons (λ turn. IsLine turn.0) turn (turns ++ later) (All-head (λ turn. IsLine turn.0) turn turns whole)
    (both_whole turns later (All-tail (λ turn. IsLine turn.0) turn turns whole) more)
