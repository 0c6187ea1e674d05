-- A host that waits for a state, over lines.
use Rattle.std.proofs.Common.{◌≡◌, ◌⊎◌, ◌∙◌, inl, inr, ℕ, zero, suc, Bool, false, true, List, [], ◌∷◌, ◌++◌, All, Some, None}
use Rattle.std.proofs.Common.{Result, Ok, Err, refl, sym, ap, subst}
use Rattle.std.specs.Prelude.{is_some}
use Rattle.std.specs.Io.KnownBytes.{Appends, Consumes}
use Rattle.std.proofs.lemmas.List.{append-nil}
use Rattle.std.proofs.lemmas.List.Elements.{All-cons, All-nil}
use Rattle.hosts.specs.Hosts.{number_of}
use Rattle.hosts.specs.Opening.{KeepsBeginnings}
use Rattle.hosts.specs.Starting.{CanStart, IsNoStartBy}
use Rattle.hosts.specs.States.{IsStateOf}
use Rattle.hosts.specs.declared.fault.JoinFault.{JoinFault}
use Rattle.hosts.specs.declared.fault.JoinFault.TheVariants as cant_join
use Rattle.hosts.specs.declared.host.Host.{Host}
use Rattle.hosts.specs.declared.opens.Opens.{Ghosts}
use Rattle.node.specs.declared.node.Node.{Ghosts as Nodes}
use Rattle.node_lines.specs.declared.fault.LineFault.{LineFault}
use Rattle.node_service.specs.Batched.{BatchedTurns, Commits, EndsBatchedBy, IsCameOf, ServesBatched, lines_in}
use Rattle.node_service.specs.Batched.{text_in}
use Rattle.node_service.specs.declared.batches.BatchedEnd.TheVariants as ends
use Rattle.node_service.specs.declared.lines.Lines.{Ghosts as Inputs}
use Rattle.node_service.specs.declared.outbox.Outbox.{Ghosts as Outputs}
use Rattle.host_service.specs.Asking.{AsksHost}
use Rattle.host_service.specs.Texts.{host_text}
use Rattle.host_service.specs.Waiting.{HasJoined, HasWaited, HeedsState, IsJoinedBy, IsUnheeded, IsWaiting, WaitsTo}
use Rattle.host_service.specs.Waiting.{is_waiting, waiting_keeper}
use Rattle.host_service.specs.declared.asked.HostRequest.TheVariants as ask
use Rattle.host_service.specs.declared.reply.HostReply.{HostReply}
use Rattle.host_service.specs.declared.reply.HostReply.TheVariants.{Joined}
use Rattle.host_service.specs.declared.waiting.WaitingHost.{WaitingHost}

abbrev pub Turns : Type 0
Turns = List (List ℕ × HostReply)

-- what opens nodes may have lost some beginnings
joined_before : {O N : Type 0} {g : Ghosts O N} {h : Nodes N} (old new : O) (places : ℕ) (bytes : List ℕ) (host : Host O N g h) → KeepsBeginnings g.member g.begins old new → IsJoinedBy new places bytes host → IsJoinedBy old places bytes host
joined_before {O} {N} {g} {h} old new places bytes host keeps joined = record {
  member = joined.member ∙ keeps.member;
  places = joined.places;
  members = joined.members;
  kept = joined.kept;
  begins = λ e c begun. keeps.begins e c (joined.begins e c begun);
  state = (joined.state.0, joined.state.1, joined.state.2, subst (λ (m : ℕ × ℕ). CanStart m.1 places joined.state.0) keeps.member joined.state.3);
  stands = λ honest me passed full state.
      let stood = joined.stands honest me passed full (subst (λ (m : ℕ × ℕ). IsStateOf me m.1 places passed bytes) (sym keeps.member) state) in
      (stood.0, record { begun = λ e low high. keeps.begins e (stood.0 e) (stood.1.begun e low high); others = stood.1.others }, stood.2);
}

-- where it is no start, what opens nodes begins over nothing over which it didn't before
no_start_keeps : {O N : Type 0} (g : Ghosts O N) (old new : O) (places : ℕ) (bytes : List ℕ) (why : JoinFault) → IsNoStartBy g old places bytes why new → KeepsBeginnings g.member g.begins old new
no_start_keeps {O} g old new places bytes cant_join.NoState (none, same) =
    subst (λ (x : O). KeepsBeginnings g.member g.begins old x) (sym same) (record { member = refl; begins = λ e c begun. begun })
no_start_keeps g old new places bytes (cant_join.Node why) (framed, may, keeps) = keeps

-- where it came to: it waits on, or is a host by the last line
pub record Waits {O N : Type 0} {g : Ghosts O N} {h : Nodes N} (opens : O) (places : ℕ) (turns : Turns) (w : WaitingHost O N g h) : Type 0 where
  pub left : O
  pub keeps : KeepsBeginnings g.member g.begins opens left
  pub waits : IsWaiting w left places
  pub none : All (λ turn. IsUnheeded turn.0 turn.1) turns

pub record Came {O N : Type 0} {g : Ghosts O N} {h : Nodes N} (opens : O) (places : ℕ) (turns : Turns) (w : WaitingHost O N g h) : Type 0 where
  pub host : Host O N g h
  pub is : w.host ≡ Some host
  pub gone : w.opens ≡ None
  pub unheeded : Turns
  pub line : List ℕ
  pub bytes : List ℕ
  pub none : All (λ turn. IsUnheeded turn.0 turn.1) unheeded
  pub asks : AsksHost line (ask.Join bytes)
  pub joined : IsJoinedBy opens places bytes host
  pub all : turns ≡ unheeded ++ (line, Joined (number_of host)) ∷ []

no_commit : {O N : Type 0} {g : Ghosts O N} {h : Nodes N} (n : ℕ) (a b : WaitingHost O N g h) → Commits waiting_keeper n a b → b ≡ a
no_commit zero a b same = same
no_commit (suc n) a b (between, one, others) = no_commit n between b others ∙ one

same_waits : {O N : Type 0} {g : Ghosts O N} {h : Nodes N} (a b : WaitingHost O N g h) (opens : O) (places : ℕ) → b ≡ a → IsWaiting a opens places → IsWaiting b opens places
same_waits {O} {N} {g} {h} a b opens places same waits = subst (λ (x : WaitingHost O N g h). IsWaiting x opens places) (sym same) waits

keeps_same : {O N : Type 0} (g : Ghosts O N) (opens : O) → KeepsBeginnings g.member g.begins opens opens
keeps_same g opens = record { member = refl; begins = λ e c begun. begun }

-- one line
abbrev OneLine : {O N : Type 0} {g : Ghosts O N} {h : Nodes N} → O → ℕ → List ℕ → HostReply → WaitingHost O N g h → Type 0
OneLine {O} {N} {g} {h} opens places line replied b =
    ((left : O) × KeepsBeginnings g.member g.begins opens left × IsWaiting b left places × IsUnheeded line replied)
    ⊎ ((bytes : List ℕ) × AsksHost line (ask.Join bytes) × HasJoined opens places bytes replied b)

heeded : {O N : Type 0} {g : Ghosts O N} {h : Nodes N} (a b : WaitingHost O N g h) (opens : O) (places : ℕ) (line bytes : List ℕ) (replied : HostReply)
    → IsWaiting a opens places → AsksHost line (ask.Join bytes) → HeedsState a bytes replied b → OneLine opens places line replied b
heeded {O} {N} {g} {h} a b opens places line bytes replied waits asks (found, is, inl joined) =
    let same : found ≡ opens = cc (is, waits.opens) in
    inr (bytes, asks, subst (λ (x : O). HasJoined x places bytes replied b) same (subst (λ (p : ℕ). HasJoined found p bytes replied b) waits.places joined))
heeded {O} {N} {g} {h} a b opens places line bytes replied waits asks (found, is, inr on) =
    let same : found ≡ opens = cc (is, waits.opens) in
    inl (
      on.left,
      no_start_keeps g opens on.left places bytes on.why (subst (λ (x : O). IsNoStartBy g x places bytes on.why on.left) same (subst (λ (p : ℕ). IsNoStartBy g found p bytes on.why on.left) waits.places on.no_start)),
      subst (λ (p : ℕ). IsWaiting b on.left p) waits.places on.waits,
      inr (inr (bytes, on.why, asks, on.told)),
    )

one_line : {O N : Type 0} {g : Ghosts O N} {h : Nodes N} (a b : WaitingHost O N g h) (opens : O) (places : ℕ) (came : Result (List ℕ) LineFault) (line : List ℕ) (replied : HostReply)
    → IsCameOf line came → WaitsTo a came replied b → IsWaiting a opens places → OneLine opens places line replied b
one_line a b opens places (Ok kept) line replied is (inl (bytes, asks, heeds)) waits =
    heeded a b opens places line bytes replied waits (subst (λ l. AsksHost l (ask.Join bytes)) is.0 asks) heeds
one_line {O} {N} {g} {h} a b opens places (Ok kept) line replied is (inr (none, told, same)) waits =
    inl (opens, keeps_same g opens, same_waits a b opens places same waits, inr (inl (λ bytes asks. none bytes (subst (λ l. AsksHost l (ask.Join bytes)) (sym is.0) asks), told)))
one_line {O} {N} {g} {h} a b opens places (Err why) line replied is (told, same) waits =
    inl (opens, keeps_same g opens, same_waits a b opens places same waits, inl (why, is, told))

keeps_both : {O N : Type 0} (g : Ghosts O N) (a b c : O) → KeepsBeginnings g.member g.begins a b → KeepsBeginnings g.member g.begins b c → KeepsBeginnings g.member g.begins a c
keeps_both g a b c first second = record { member = second.member ∙ first.member; begins = λ e x begun. first.begins e x (second.begins e x begun) }

not_both : (x : Bool) → x ≡ false → x ≡ true → ⊥
not_both x down up =
    let wrong : false ≡ true = sym down ∙ up in
    cc

-- one that is a host waits for no line
no_turn : {O N I : Type 0} {g : Ghosts O N} {h : Nodes N} (input : Inputs I) (turns : Turns) (a : WaitingHost O N g h) (i : I) (b : WaitingHost O N g h) (j : I)
    → BatchedTurns waiting_keeper input turns a i b j → a.opens ≡ None → (turns ≡ []) × (b ≡ a)
no_turn input [] a i b j (n, commits, left) gone = (refl, no_commit n a b commits)
no_turn {O} {N} {I} {g} {h} input (turn ∷ turns) a i b j (n, before, after, rest, commits, one, others) gone =
    let same : before ≡ a = no_commit n a before commits in
    let still : before.opens ≡ None = ap (λ (x : WaitingHost O N g h). x.opens) same ∙ gone in
    absurd (not_both (is_some before.opens) (ap is_some still) one.up)

-- a line that gave no host stands before the others
later : {O N : Type 0} {g : Ghosts O N} {h : Nodes N} (opens left : O) (places : ℕ) (turn : List ℕ × HostReply) (turns : Turns) (b : WaitingHost O N g h)
    → KeepsBeginnings g.member g.begins opens left → IsUnheeded turn.0 turn.1 → Waits left places turns b ⊎ Came left places turns b → Waits opens places (turn ∷ turns) b ⊎ Came opens places (turn ∷ turns) b
later {O} {N} {g} {h} opens left places turn turns b keeps none (inl on) = inl (record {
  left = on.left;
  keeps = keeps_both g opens left on.left keeps on.keeps;
  waits = on.waits;
  none = All-cons (λ turn. IsUnheeded turn.0 turn.1) turn turns none on.none;
})
later {O} {N} {g} {h} opens left places turn turns b keeps none (inr came) = inr (record {
  host = came.host;
  is = came.is;
  gone = came.gone;
  unheeded = turn ∷ came.unheeded;
  line = came.line;
  bytes = came.bytes;
  none = All-cons (λ turn. IsUnheeded turn.0 turn.1) turn came.unheeded none came.none;
  asks = came.asks;
  joined = joined_before opens left places came.bytes came.host keeps came.joined;
  all = ap (λ (xs : Turns). turn ∷ xs) came.all;
})

-- a line that gave one is the last
last_line : {O N : Type 0} {g : Ghosts O N} {h : Nodes N} (opens : O) (places : ℕ) (line bytes : List ℕ) (replied : HostReply) (turns : Turns) (after b : WaitingHost O N g h)
    → AsksHost line (ask.Join bytes) → HasJoined opens places bytes replied after → (turns ≡ []) × (b ≡ after) → Came opens places ((line, replied) ∷ turns) b
last_line {O} {N} {g} {h} opens places line bytes replied turns after b asks joined (none, same) = record {
  host = joined.host;
  is = ap (λ (x : WaitingHost O N g h). x.host) same ∙ joined.is;
  gone = ap (λ (x : WaitingHost O N g h). x.opens) same ∙ joined.none;
  unheeded = [];
  line = line;
  bytes = bytes;
  none = All-nil (λ turn. IsUnheeded turn.0 turn.1);
  asks = asks;
  joined = joined.joined;
  all = ap (λ (xs : Turns). (line, replied) ∷ xs) none ∙ ap (λ (r : HostReply). (line, r) ∷ []) joined.told;
}

-- what came of the first line, and then of the others
both : {O N I : Type 0} {g : Ghosts O N} {h : Nodes N} (input : Inputs I) (turn : List ℕ × HostReply) (turns : Turns) (after : WaitingHost O N g h) (rest : I) (b : WaitingHost O N g h) (j : I) (opens : O) (places : ℕ)
    → BatchedTurns waiting_keeper input turns after rest b j → ((left : O) → IsWaiting after left places → Waits left places turns b ⊎ Came left places turns b) → OneLine opens places turn.0 turn.1 after
    → Waits opens places (turn ∷ turns) b ⊎ Came opens places (turn ∷ turns) b
both input turn turns after rest b j opens places others on (inl (left, keeps, waits, none)) = later opens left places turn turns b keeps none (on left waits)
both input turn turns after rest b j opens places others on (inr (bytes, asks, joined)) =
    inr (last_line opens places turn.0 bytes turn.1 turns after b asks joined (no_turn input turns after rest b j others joined.none))

pub waited : {O N I : Type 0} {g : Ghosts O N} {h : Nodes N} (input : Inputs I) (turns : Turns) (a : WaitingHost O N g h) (i : I) (b : WaitingHost O N g h) (j : I) (opens : O) (places : ℕ)
    → BatchedTurns waiting_keeper input turns a i b j → IsWaiting a opens places → Waits opens places turns b ⊎ Came opens places turns b
waited {O} {N} {I} {g} {h} input [] a i b j opens places (n, commits, left) waits = inl (record {
  left = opens;
  keeps = keeps_same g opens;
  waits = same_waits a b opens places (no_commit n a b commits) waits;
  none = All-nil (λ turn. IsUnheeded turn.0 turn.1);
})
waited {O} {N} {I} {g} {h} input (turn ∷ turns) a i b j opens places (n, before, after, rest, commits, one, others) waits =
    both input turn turns after rest b j opens places others (λ left on. waited input turns after rest b j left places others on)
    (one_line before after opens places one.came turn.0 turn.1 one.is one.replies (same_waits a before opens places (no_commit n a before commits) waits))

-- the lines, where none wait
turned_alone : {O N I P : Type 0} {g : Ghosts O N} {h : Nodes N} (input : Inputs I) (output : Outputs P) (turns : Turns) (a : WaitingHost O N g h) (i : I) (o : P) (b : WaitingHost O N g h) (j : I) (q : P)
    → ServesBatched waiting_keeper host_text input output turns [] [] a i o b j q → BatchedTurns waiting_keeper input turns a i b j
turned_alone {O} {N} {I} {P} {g} {h} input output turns a i o b j q serves =
    subst (λ (x : WaitingHost O N g h). BatchedTurns waiting_keeper input turns a i x j) (sym serves.waits.0)
    (subst (λ (x : I). BatchedTurns waiting_keeper input turns a i serves.mid x) (sym serves.waits.1)
    (subst (λ (ts : Turns). BatchedTurns waiting_keeper input ts a i serves.mid serves.from) (append-nil turns) serves.turned))

alone : (turns : Turns) → (turns ++ []) ++ [] ≡ turns
alone turns = append-nil (turns ++ []) ∙ append-nil turns

came_of : {O N I P : Type 0} {g : Ghosts O N} {h : Nodes N} (input : Inputs I) (output : Outputs P) (turns : Turns) (b : WaitingHost O N g h) (i : I) (o : P) (j : I) (q : P) (opens : O) (places : ℕ) (host : Host O N g h)
    → Consumes (input.bytes_left i) (input.bytes_left j) (lines_in turns) → Appends (output.bytes_held o) (output.bytes_held q) (text_in host_text turns) → b.host ≡ Some host → (came : Came opens places turns b)
    → HasWaited input output opens places host i o j q
came_of {O} {N} {I} {P} {g} {h} input output turns b i o j q opens places host read written is came =
    let same : came.host ≡ host = cc (came.is, is) in
    let all : turns ≡ came.unheeded ++ (came.line, Joined (number_of host)) ∷ [] =
    came.all ∙ ap (λ (x : Host O N g h). came.unheeded ++ (came.line, Joined (number_of x)) ∷ []) same in
    record {
      unheeded = came.unheeded;
      line = came.line;
      bytes = came.bytes;
      none = came.none;
      asks = came.asks;
      joined = subst (λ (x : Host O N g h). IsJoinedBy opens places came.bytes x) same came.joined;
      read = subst (λ (ts : Turns). Consumes (input.bytes_left i) (input.bytes_left j) (lines_in ts)) all read;
      written = subst (λ (ts : Turns). Appends (output.bytes_held o) (output.bytes_held q) (text_in host_text ts)) all written;
    }

waited_of : {O N I P : Type 0} {g : Ghosts O N} {h : Nodes N} (input : Inputs I) (output : Outputs P) (turns : Turns) (b : WaitingHost O N g h) (i : I) (o : P) (j : I) (q : P) (opens : O) (places : ℕ) (host : Host O N g h)
    → Consumes (input.bytes_left i) (input.bytes_left j) (lines_in turns) → Appends (output.bytes_held o) (output.bytes_held q) (text_in host_text turns) → b.host ≡ Some host → is_waiting b ≡ false
    → Waits opens places turns b ⊎ Came opens places turns b → HasWaited input output opens places host i o j q
waited_of input output turns b i o j q opens places host read written is down (inl on) =
    absurd (not_both (is_some b.opens) down (ap is_some on.waits.opens))
waited_of input output turns b i o j q opens places host read written is down (inr came) = came_of input output turns b i o j q opens places host read written is came

-- where it ended as one that no longer waits, the host that it has came of the lines
pub has_waited : {O N I P : Type 0} {g : Ghosts O N} {h : Nodes N} (input : Inputs I) (output : Outputs P) (a : WaitingHost O N g h) (i : I) (o : P) (b : WaitingHost O N g h) (j : I) (q : P) (opens : O) (places : ℕ) (host : Host O N g h)
    → EndsBatchedBy waiting_keeper host_text input output ends.Crashed a i o b j q → IsWaiting a opens places → b.host ≡ Some host → HasWaited input output opens places host i o j q
has_waited input output a i o b j q opens places host (turns, serves, down) waits is =
    waited_of input output turns b i o j q opens places host (subst (λ (ts : Turns). Consumes (input.bytes_left i) (input.bytes_left j) (lines_in ts)) (alone turns) serves.read) serves.written is down
    (waited input turns a i b j opens places (turned_alone input output turns a i o b j q serves) waits)
