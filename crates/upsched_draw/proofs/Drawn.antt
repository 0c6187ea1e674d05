-- What is drawn of the commands that nodes learn, and of what modems transmit.
use Rattle.std.proofs.Common.{◌≡◌, ℕ, List, map, Option, Some, None, IfSome, Result, Ok, Err, OnOk, ◌∙◌}
use Rattle.std.proofs.Common.{ap}
use Rattle.ballots.specs.declared.members.Members.{Members}
use Rattle.ballots.specs.Members.{member_count}
use Rattle.grant_machine.specs.declared.command.Command.{Command}
use Rattle.upsched_draw.specs.Learned.{AreMostLearned}
use Rattle.map_picture.specs.declared.sent.Sent.{Sent}
use Rattle.network_script.specs.World.{Written}
use Rattle.seats.specs.declared.answer.Transmission.{Transmission}
use Rattle.script_steps.specs.declared.entry.Entry.{Entry}
use Rattle.script_text.specs.StepScript.{IsStepScript, NoSteps}
use Rattle.watched_runs.specs.Rows.{Seen}
use Rattle.watched_runs.specs.Steps.{IsStepRun, Leave}
use Rattle.upsched_check.specs.Draws.{DrawsCommands, TellsCommands}
use Rattle.world_events.specs.declared.event.Event.{Event}
use Rattle.upsched_draw.specs.Draws.{DrawsLearned, LearnsFrom, LeavesLearned, TellsLearned}
use Rattle.upsched_draw.specs.Transmitted.{told}

-- what nodes learn and modems transmit in a run
pub run_learned : (members nodes : ℕ) (ids given : List ℕ) (steps : List Entry) (events : List Event) (run : Seen) (w : Written) (cs : List Command) (sent : List Transmission) (ts : List Sent)
    → IsStepRun nodes given steps events run → Leave nodes given events run w → nodes ≡ members → given ≡ ids → AreMostLearned w.nodes cs
    → sent ≡ w.transmissions → ts ≡ map (told ids) sent → LeavesLearned members ids steps cs ts
run_learned members nodes ids given steps events run w cs sent ts is_run leave is_count is_ids most is_sent is_told =
    (events, run, rw (is_count, is_ids) at is_run, w, rw (is_count, is_ids) at leave, most, is_told ∙ ap (map (told ids)) is_sent)

-- and in a script that is read off a text
pub script_learned : (known : Option (List ℕ)) (count : Members) (ids : List ℕ) (steps : List Entry) (cs : List Command) (ts : List Sent)
    → IfSome known (λ text. IsStepScript text count ids steps) → LeavesLearned (member_count count) ids steps cs ts → IfSome known (λ text. LearnsFrom text cs ts)
script_learned None count ids steps cs ts read leaves = tt
script_learned (Some text) count ids steps cs ts read leaves = (count, ids, steps, read, leaves)

-- a text that is known to be no script has nodes learn nothing
pub none_learned : (known : Option (List ℕ)) (cs : List Command) (ts : List Sent) → NoSteps known → IfSome known (λ text. LearnsFrom text cs ts) → ⊥
none_learned None cs ts none learned = none
none_learned (Some text) cs ts none (count, ids, steps, read, leaves) = none count ids steps read

-- where these commands are drawn, the script's are
pub learned_drawn : {T E : Type 0} (r : Result T E) (known old new : Option (List ℕ)) (cs : List Command) (ts : List Sent) → IfSome known (λ text. LearnsFrom text cs ts)
    → OnOk r (DrawsCommands cs ts old new) → OnOk r (DrawsLearned known old new)
learned_drawn (Err e) known old new cs ts learned draws = tt
learned_drawn (Ok x) None old new cs ts learned draws = tt
learned_drawn (Ok x) (Some text) old new cs ts learned draws = (cs, ts, learned, draws)

pub learned_told : {T E : Type 0} (r : Result T E) (known old new : Option (List ℕ)) (cs : List Command) (ts : List Sent) → IfSome known (λ text. LearnsFrom text cs ts)
    → OnOk r (TellsCommands cs old new) → OnOk r (TellsLearned known old new)
learned_told (Err e) known old new cs ts learned tells = tt
learned_told (Ok x) None old new cs ts learned tells = tt
learned_told (Ok x) (Some text) old new cs ts learned tells = (cs, ts, learned, tells)
