-- The first turns of a life are a life that may be killed there.
use Rattle.std.proofs.Common.{◌≡◌, inl, ℕ, List, [], ◌∷◌, ◌++◌, Option, refl, sym, ap, subst, ◌∙◌, append_assoc}
use Rattle.acceptor.specs.Content.{Content, Write}
use Rattle.node.specs.View.{Standing, View, started}
use Rattle.node.specs.View.Standing.{Running, Stopped}
use Rattle.node_lines.specs.declared.request.Request.{Request}
use Rattle.node_lines.specs.declared.request.Request.TheVariants as request
use Rattle.node_lives.specs.Beginnings.{BeginningsAreLives}
use Rattle.node_lives.specs.Lives.{AreTold}
use Rattle.node_service.specs.Seated.{asked_of}
use Rattle.node_service.specs.declared.outgoing.Reply.{Reply}
use Rattle.node_service.specs.declared.outgoing.Reply.TheVariants.{Acted, Fresh, Refused, Restarted}
use Rattle.node_worker.specs.Entries.{EntryView, entry}
use Rattle.node_worker.specs.declared.entry.Ask.TheVariants.{Crash}
use Rattle.node_worker.specs.declared.entry.Cause.TheVariants.{Ask as Asked}
use Rattle.node_worker.specs.declared.entry.Ended.TheVariants.{Whole}
use Rattle.seats.specs.Moves.{Move, Moves}
use Rattle.seats.specs.declared.answer.Answer.{Answer}
use Rattle.upsched_node.specs.Serving.{RepliesAs, RunsAs}

-- a run of turns is one of the first, and then one of the others
runs_apart : (members me : ℕ) (turns later : List (List ℕ × Reply)) (s t : Standing) → RunsAs members me s (turns ++ later) t → (m : Standing) × RunsAs members me s turns m × RunsAs members me m later t
runs_apart members me [] later s t runs = (s, refl, runs)
runs_apart members me (turn ∷ turns) later s t (between, one, others) =
    let rest = runs_apart members me turns later between t others in (rest.0, (between, one, rest.1), rest.2)

told_apart : (turns later : List (List ℕ × Reply)) (done : List EntryView) → AreTold (turns ++ later) done → (first rest : List EntryView) × (done ≡ first ++ rest) × AreTold turns first × AreTold later rest
told_apart [] later done told = ([], done, refl, refl, told)
told_apart (turn ∷ turns) later done (one, others, is, this, after) =
    let rest = told_apart turns later others after in (
      one ++ rest.0,
      rest.1,
      is ∙ ap (λ (es : List EntryView). one ++ es) rest.2 ∙ sym (append_assoc one rest.0 rest.1),
      (one, rest.0, refl, this, rest.3),
      rest.4,
    )

module _ (members me : ℕ) (c : Content) (doubt : Option Write) where
  -- one that is down stays so, whatever it is asked
  moves_down : (asked : Request) (answer : Answer) (m : Move) → Moves members me (Stopped c doubt) (asked_of asked) answer m → m.standing ≡ Stopped c doubt
  moves_down request.Lead answer m stays = ap (λ (x : Move). x.standing) stays.1
  moves_down (request.Offer value) answer m stays = ap (λ (x : Move). x.standing) stays.1
  moves_down (request.Release now) answer m stays = ap (λ (x : Move). x.standing) stays.1
  moves_down (request.Letter letter) answer m stays = ap (λ (x : Move). x.standing) stays.1
  moves_down (request.Tell to place) answer m stays = ap (λ (x : Move). x.standing) stays.1

  reply_down : (line : List ℕ) (replied : Reply) (t : Standing) → RepliesAs members me (Stopped c doubt) line replied t → t ≡ Stopped c doubt
  reply_down line (Acted acted) t (asked, asks, (m, moves, letters, outputs, is)) = sym is ∙ moves_down asked _ m moves
  reply_down line (Refused why) t (turned, is) = is
  reply_down line (Fresh id count) t none = absurd none
  reply_down line (Restarted id count) t none = absurd none

  runs_down : (turns : List (List ℕ × Reply)) (view : View) → ¬ RunsAs members me (Stopped c doubt) turns (Running view)
  runs_down [] view is = cc
  runs_down (turn ∷ turns) view (between, one, others) =
      runs_down turns view (subst (λ (x : Standing). RunsAs members me x turns (Running view)) (reply_down turn.0 turn.1 between one) others)

-- so one that runs ran all the time
ran : (members me : ℕ) (turns : List (List ℕ × Reply)) (m : Standing) (view : View) → RunsAs members me m turns (Running view) → (mid : View) × (m ≡ Running mid)
ran members me turns (Running mid) view runs = (mid, refl)
ran members me turns (Stopped c doubt) view runs = absurd (runs_down members me c doubt turns view runs)

pub beginnings_are_lives : BeginningsAreLives
beginnings_are_lives members me c turns later done view life =
    let runs = runs_apart members me turns later (Running (started c)) (Running view) life.runs in
    let told = told_apart turns later done life.told in
    let mid = ran members me later runs.0 view runs.2 in (
      told.0,
      mid.0,
      entry (Asked Crash) Whole [] [],
      record { runs = subst (RunsAs members me (Running (started c)) turns) mid.1 runs.1; told = told.3 },
      refl,
      inl (refl, refl),
    )
