-- What nodes did in the lives of their processes is a replay.
use Rattle.std.proofs.Common.{◌≡◌, ◌∙◌, ◌⊎◌, inl, inr, ℕ, List, [], ◌∷◌, ◌++◌, Option, None, Result, Ok, IsTrue}
use Rattle.std.proofs.Common.{is_ok, refl, sym, ap, subst}
use Rattle.acceptor.specs.Content.{Content, Write, after_write, no_content}
use Rattle.node.specs.Calls.{Course, MayGoOn}
use Rattle.node.specs.Calls.Cause.{Lead as AskedToLead, Offer as Offered, Receive as Received, Tell as AskedToTell}
use Rattle.node.specs.Calls.{Cause as Call}
use Rattle.node.specs.Step.{Outcome}
use Rattle.node.specs.View.{Standing, View, started}
use Rattle.node.specs.View.Standing.{Running, Stopped}
use Rattle.node_journal.specs.Turns.{cause_of, crash_entry, restart_entry}
use Rattle.node_lines.specs.Lines.{Asks}
use Rattle.node_lines.specs.declared.request.Request.{Request}
use Rattle.node_lines.specs.declared.request.Request.TheVariants as request
use Rattle.node_lives.specs.Lives.{AreLives, AreTold, IsKilled, IsTold, LivesAreSound}
use Rattle.node_service.specs.Seated.{asked_of}
use Rattle.node_service.specs.declared.outgoing.Reply.{Reply}
use Rattle.node_service.specs.declared.outgoing.Reply.TheVariants.{Acted, Fresh, Refused, Restarted}
use Rattle.node_worker.specs.Entries.{EntryView}
use Rattle.node_worker.specs.Legal.{entries_of}
use Rattle.node_worker.specs.Replays.{EntryStep, IsSurvived, Replays, answer_of, answer_to, ask_of}
use Rattle.node_worker.specs.declared.entry.Ended.{Ended}
use Rattle.proposer.specs.declared.fault.NodeFault.{NodeFault}
use Rattle.proposer.specs.declared.fault.NodeFault.TheVariants.{Down}
use Rattle.seats.specs.Moves.{Ask, Moves, quiet}
use Rattle.seats.specs.Moves.Ask.{Call as IsCalled}
use Rattle.seats.specs.declared.answer.Answer.{Answer}
use Rattle.seats.specs.declared.answer.Answer.TheVariants.{Fault}
use Rattle.upsched_node.specs.Serving.{RepliesAs, RunsAs}

-- a line asks one thing at most
abbrev pub OneMeaning : Type 0
OneMeaning = (line : List ℕ) (r s : Request) → Asks line r → Asks line s → r ≡ s

-- one replay, and another from where it ends
replays_on : (members me : ℕ) (s : Standing) (xs ys : List EntryView) (m t : Standing) → Replays members me s xs m → Replays members me m ys t → Replays members me s (xs ++ ys) t
replays_on members me s [] ys m t same then = subst (λ (x : Standing). Replays members me x ys t) (sym same) then
replays_on members me s (x ∷ xs) ys m t (first, step, rest) then = (first, step, replays_on members me first xs ys m t rest then)

-- what a request asks of a node is what its cause does
ask_is : (asked : Request) → asked_of asked ≡ ask_of (cause_of asked)
ask_is request.Lead = refl
ask_is (request.Offer value) = refl
ask_is (request.Release now) = refl
ask_is (request.Letter letter) = refl
ask_is (request.Tell to place) = refl

-- a reply is a replay of what it tells
reply_replays : OneMeaning → (members me : ℕ) (s : Standing) (line : List ℕ) (reply : Reply) (t : Standing) (done : List EntryView) → RepliesAs members me s line reply t → IsTold line reply done → Replays members me s done t
reply_replays one members me s line (Acted acted) t done (asked, asks, (m, moves, letters, outputs, stands)) (e, told, is, asks_too, cause, tells, survived) =
    let same : told ≡ asked = one line told asked asks_too asks in
    let ask : asked_of asked ≡ ask_of e.cause = ask_is asked ∙ ap ask_of (sym (cause ∙ ap cause_of same)) in
    let answered : Moves members me s (asked_of asked) (answer_of e.cause e.ended e.letters e.outputs) m = subst (λ (a : Answer). Moves members me s (asked_of asked) a m) tells.answer moves in
    let moved : Moves members me s (ask_of e.cause) (answer_of e.cause e.ended e.letters e.outputs) m = subst (λ (a : Ask). Moves members me s a (answer_of e.cause e.ended e.letters e.outputs) m) ask answered in
    let step : EntryStep members me s e t = (survived, m, moved, stands, letters ∙ tells.letters, outputs ∙ tells.outputs) in
    subst (λ (es : List EntryView). Replays members me s es t) (sym is) (t, step, refl)
reply_replays one members me s line (Refused why) t done (away, same) is = subst (λ (es : List EntryView). Replays members me s es t) (sym is) (sym same)
reply_replays one members me s line (Fresh id count) t done none is = absurd none
reply_replays one members me s line (Restarted id count) t done none is = absurd none

-- so are replies, one after another
runs_replay : OneMeaning → (members me : ℕ) (s : Standing) (turns : List (List ℕ × Reply)) (t : Standing) (done : List EntryView) → RunsAs members me s turns t → AreTold turns done → Replays members me s done t
runs_replay one members me s [] t done same is = subst (λ (es : List EntryView). Replays members me s es t) (sym is) (sym same)
runs_replay one members me s (turn ∷ turns) t done (between, replied, others) (first, rest, is, told, told_rest) =
    subst (λ (es : List EntryView). Replays members me s es t) (sym is)
    (replays_on members me s first rest between t (reply_replays one members me s turn.0 turn.1 between first replied told) (runs_replay one members me between turns t rest others told_rest))

-- a call that may take its course isn't declined
may_go_on : (members me : ℕ) (view : View) (call : Call) (o : Outcome) → Course members me view call (Ok o) → MayGoOn members me view call
may_go_on members me view (Received l) o course = tt
may_go_on members me view AskedToLead o course = course.0
may_go_on members me view (Offered v) o course = subst (λ (r : Result Outcome NodeFault). IsTrue (is_ok r)) course refl
may_go_on members me view (AskedToTell n q) o course = tt

-- a restart over a content of which a write is in doubt
starts_over : (members me : ℕ) (before : Content) (doubt : Option Write) (c : Content) → (c ≡ before) ⊎ (c ≡ after_write before doubt) → EntryStep members me (Stopped before doubt) restart_entry (Running (started c))
starts_over members me before doubt c (inl is) = (tt, quiet (Running (started before)), inl refl, ap (λ (x : Content). Running (started x)) (sym is), refl, refl)
starts_over members me before doubt c (inr is) =
    (tt, record { standing = Running (started (after_write before doubt)); letters = []; outputs = []; write = doubt }, inr refl, ap (λ (x : Content). Running (started x)) (sym is), refl, refl)

-- a node that is killed, and starts over what it left
killed_replays : (members me : ℕ) (view : View) (e : EntryView) (left : Content) → IsKilled members me view e left → Replays members me (Running view) (e ∷ restart_entry ∷ []) (Running (started left))
killed_replays members me view e left (inl (is, same)) =
    let down : Standing = Stopped view.content None in
    let crash : EntryStep members me (Running view) crash_entry down = (tt, quiet down, (refl, refl), refl, refl, refl) in
    let up : Standing = Running (started view.content) in
    let restart : EntryStep members me down restart_entry up = (tt, quiet up, inl refl, refl, refl, refl) in
    subst (λ (x : EntryView). Replays members me (Running view) (x ∷ restart_entry ∷ []) (Running (started left))) (sym is)
    (subst (λ (c : Content). Replays members me (Running view) (crash_entry ∷ restart_entry ∷ []) (Running (started c))) (sym same)
    (down, crash, (up, restart, refl)))
killed_replays members me view e left (inr (call, o, ask, course, ended, letters, outputs, which)) =
    let down : Standing = Stopped view.content o.write in
    let went : Moves members me (Running view) (IsCalled call) (Fault Down) (quiet down) = (λ stop. may_go_on members me view call o course, inr (o, course, refl)) in
    let answer : Fault Down ≡ answer_of e.cause e.ended e.letters e.outputs = ap (λ (x : Ended). answer_to (ask_of e.cause) x e.letters e.outputs) (sym ended) in
    let moved : Moves members me (Running view) (ask_of e.cause) (answer_of e.cause e.ended e.letters e.outputs) (quiet down) =
    subst (λ (a : Ask). Moves members me (Running view) a (answer_of e.cause e.ended e.letters e.outputs) (quiet down)) (sym ask)
    (subst (λ (a : Answer). Moves members me (Running view) (IsCalled call) a (quiet down)) answer went) in
    let fails : EntryStep members me (Running view) e down = (subst (λ (x : Ended). IsSurvived x) (sym ended) tt, quiet down, moved, refl, sym letters, sym outputs) in
    (down, fails, (Running (started left), starts_over members me view.content o.write left which, refl))

-- lives, one after another, are a replay
lives_replay : OneMeaning → (members me : ℕ) (c : Content) (lives : List (List (List ℕ × Reply))) (done : List EntryView) → AreLives members me c lives done → (t : Standing) × Replays members me (Running (started c)) done t
lives_replay one members me c [] done is = (Running (started c), subst (λ (es : List EntryView). Replays members me (Running (started c)) es (Running (started c))) (sym is) refl)
lives_replay one members me c (turns ∷ []) done (view, life) = (Running view, runs_replay one members me (Running (started c)) turns (Running view) done life.runs life.told)
lives_replay one members me c (turns ∷ next ∷ lives) done (front, rest, e, view, left, is, life, killed, lived) =
    let later : (t : Standing) × Replays members me (Running (started left)) rest t = lives_replay one members me left (next ∷ lives) rest lived in
    let again : Replays members me (Running view) (e ∷ restart_entry ∷ rest) later.0 =
    replays_on members me (Running view) (e ∷ restart_entry ∷ []) rest (Running (started left)) later.0 (killed_replays members me view e left killed) later.1 in (
      later.0,
      subst (λ (es : List EntryView). Replays members me (Running (started c)) es later.0) (sym is)
          (replays_on members me (Running (started c)) front (e ∷ restart_entry ∷ rest) (Running view) later.0
          (runs_replay one members me (Running (started c)) turns (Running view) front life.runs life.told) again),
    )

pub lived_sound : OneMeaning → LivesAreSound
lived_sound one members records lived = record {
  named = lived.named;
  replay = λ k within. let life = lived.lived k within in lives_replay one members k no_content life.0 (entries_of k records) life.1;
  come = lived.come;
}
