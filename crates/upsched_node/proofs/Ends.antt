-- How a run of lines ends.
use Rattle.std.proofs.Common.{◌≡◌, ℕ, List, [], ◌∷◌, ◌++◌, Bool, true, false, refl, sym, subst}
use Rattle.std.specs.Io.KnownBytes.{Consumes}
use Rattle.std.proofs.KnownBytes.{Consumes-trans}
use Rattle.node.specs.declared.node.Node.{Ghosts}
use Rattle.node.specs.View.{Standing}
use Rattle.node.specs.View.Standing.{Running, Stopped}
use Rattle.node_service.proofs.Served.{more_of, more_turns}
use Rattle.node_service.specs.declared.actor.Actor.{Ghosts as Actors}
use Rattle.node_service.specs.declared.incoming.Input.{Ghosts as Inputs}
use Rattle.node_service.specs.declared.outgoing.Output.{Ghosts as Outputs}
use Rattle.node_service.specs.declared.outgoing.Reply.{Reply}
use Rattle.node_service.specs.declared.service.End.{End}
use Rattle.node_service.specs.declared.service.End.TheVariants as ends
use Rattle.node_service.specs.Seated.{DoesAsAsked}
use Rattle.node_service.specs.Serving.{EndsBy, Turns, lines_of}
use Rattle.seats.specs.Occupant.{IsHonest, Stands, is_up, node_of, who_of}
use Rattle.seats.specs.Seat.{Shown, crashed}
use Rattle.seats.specs.declared.seat.Seat.{Seat}
use Rattle.upsched_node.proofs.Runs.{ActsAsSeat, runs_as, whole_lines}
use Rattle.upsched_node.specs.Serving.{IsDown, IsUp, ServesAs}

-- a node in its seat, as what acts
abbrev pub seat_actor : {N : Type 0} {g : Ghosts N} → Actors (Seat N g)
seat_actor = record { up = λ seat. is_up seat; obeys = λ old asked acted new. DoesAsAsked old asked acted new }

-- a node in its seat that is up runs, and one that isn't is down
seat_up : (up : Bool) (may : Standing → Type 0) (t : Standing) → up ≡ true → Shown up may t → IsUp t
seat_up true may t is (stands, view, runs) = subst IsUp (sym runs) tt
seat_up false may t is shown = cc

crashed_down : (t : Standing) → IsDown (crashed t)
crashed_down (Running view) = tt
crashed_down (Stopped c doubt) = tt

seat_down : (up : Bool) (may : Standing → Type 0) (t : Standing) → up ≡ false → Shown up may t → IsDown t
seat_down true may t is shown = cc
seat_down false may t is (stood, stands, same) = subst IsDown (sym same) (crashed_down stood)

pub serves_as : {N I O : Type 0} {g : Ghosts N} (doer : Actors (Seat N g)) → ActsAsSeat doer → ((a : Seat N g) → doer.up a ≡ is_up a) → (input : Inputs I) (output : Outputs O) (end : End)
    (a : Seat N g) (i : I) (o : O) (a' : Seat N g) (i' : I) (o' : O) → EndsBy doer input output end a i o a' i' o' → IsHonest a' → (s : Standing) → Stands a s
    → ServesAs input output (who_of a).members (who_of a).id s end i o i' o'
serves_as {N} {I} {O} {g} doer does seat_is input output ends.Input a i o a' i' o' (turns, rest, left, serves, up, gives, reads) honest s stands =
    let run = runs_as doer does input turns a i a' rest serves.turned honest s stands in
    record {
      turns = turns;
      last = run.0;
      whole = whole_lines doer input turns a i a' rest serves.turned;
      runs = run.1;
      ends = (seat_up (is_up a') (g.stands (node_of a')) run.0 (subst (λ b. b ≡ true) (seat_is a') up) run.2, serves.written, (rest, left, serves.read, gives, reads));
    }
serves_as {N} {I} {O} {g} doer does seat_is input output ends.Crashed a i o a' i' o' (turns, serves, down) honest s stands =
    let run = runs_as doer does input turns a i a' i' serves.turned honest s stands in
    record {
      turns = turns;
      last = run.0;
      whole = whole_lines doer input turns a i a' i' serves.turned;
      runs = run.1;
      ends = (seat_down (is_up a') (g.stands (node_of a')) run.0 (subst (λ b. b ≡ false) (seat_is a') down) run.2, serves.written, serves.read);
    }
serves_as {N} {I} {O} {g} doer does seat_is input output ends.Unreadable a i o a' i' o' (turns, rest, serves, up, fails) honest s stands =
    let run = runs_as doer does input turns a i a' rest serves.turned honest s stands in
    record {
      turns = turns;
      last = run.0;
      whole = whole_lines doer input turns a i a' rest serves.turned;
      runs = run.1;
      ends = (seat_up (is_up a') (g.stands (node_of a')) run.0 (subst (λ b. b ≡ true) (seat_is a') up) run.2, serves.written, (rest, serves.read, fails));
    }
serves_as doer does seat_is input output (ends.Unwritten why) a i o a' i' o' (turns, before, rest, sent, line, replied, serves, turn, reads, fails) honest s stands =
    let all : List (List ℕ × Reply) = turns ++ (line, replied) ∷ [] in
    let turned : Turns doer input all a i a' i' = more_turns doer input turns line replied a i before rest a' i' serves.turned turn in
    let run = runs_as doer does input all a i a' i' turned honest s stands in
    let read : Consumes (input.bytes_left i) (input.bytes_left i') (lines_of turns ++ (line ++ 10 ∷ [])) =
    Consumes-trans (input.bytes_left i) (input.bytes_left rest) (input.bytes_left i') (lines_of turns) (line ++ 10 ∷ []) serves.read reads.1 in
    record {
      turns = all;
      last = run.0;
      whole = whole_lines doer input all a i a' i' turned;
      runs = run.1;
      ends = (
        subst (Consumes (input.bytes_left i) (input.bytes_left i')) (sym (more_of (λ turn. turn.0 ++ 10 ∷ []) turns (line, replied))) read,
        (turns, (line, replied), sent, refl, serves.written, fails),
      );
    }
serves_as doer does seat_is input output ends.Spent a i o a' i' o' (turns, serves, count) honest s stands =
    let run = runs_as doer does input turns a i a' i' serves.turned honest s stands in
    record {
      turns = turns;
      last = run.0;
      whole = whole_lines doer input turns a i a' i' serves.turned;
      runs = run.1;
      ends = (serves.written, serves.read, count);
    }
