-- Over whole runs: what modems hold they own, and what they send they hold.
use Rattle.std.proofs.Common.{◌≡◌, inl, inr, ⊎_elim, ℕ, zero, suc, ◌-◌, ◌≤◌, List, [], ◌∷◌, ◌++◌, map, refl, sym, ◌∙◌}
use Rattle.std.proofs.Common.{ap, subst, arith, Some, slice_get, Contains}
use Rattle.minislot_time.specs.Wire.{IsNear}
use Rattle.map_body.specs.Cell.{IsCell}
use Rattle.flow_state.specs.Limits.{last_sid}
use Rattle.ballots.specs.Voting.{IsIn}
use Rattle.grant_machine.specs.declared.command.Command.{Command}
use Rattle.grant_machine.specs.declared.output.Output.{Output}
use Rattle.grant_machine.specs.declared.output.Output.TheVariants as outputs
use Rattle.grant_machine.specs.Owner.{Owns, IsLeased}
use Rattle.grant_machine.specs.Runs.{outputs_of}
use Rattle.grant_machine.proofs.Callers as schedules
use Rattle.command_log.specs.Reading.{command_of}
use Rattle.command_log.specs.Values.{outputs_of_values}
use Rattle.modem.specs.Held.{Hearing, Gives, HeldBy, HasHeard}
use Rattle.modem.specs.Owner.{IsTimely, HeardFrom}
use Rattle.modem.proofs.Callers.{leased_of, near_once}
use Rattle.world_events.specs.declared.event.Event.{Event}
use Rattle.seats.specs.declared.answer.Answer.{Answer}
use Rattle.seats.specs.declared.answer.ReleasedOutput.{ReleasedOutput}
use Rattle.seats.specs.declared.answer.Transmission.{Transmission}
use Rattle.network_script.specs.World.{Written, opening}
use Rattle.seats.specs.Receiver.{Receiver, new_receiver}
use Rattle.seats.specs.Modems.{sent_at}
use Rattle.seats.proofs.Callers.{new_stands}
use Rattle.network_script.specs.Next.{Goes, Run}
use Rattle.network_script.specs.Headline.{OfEveryRun, WithSchedule, HeldIsOwned, ModemsAreNamed, OwnersAreOne}
use Rattle.network_script.specs.Headline.{SentIsHeld}
use Rattle.network_script.proofs.Drawn.{is_drawn}
use Rattle.network_script.proofs.Moves.{Moved, next_moves}
use Rattle.network_script.proofs.Runs.{IsFine, next_fine, opening_fine}
use Rattle.network_script.proofs.Schedule.{released_is_output}
use Rattle.network_script.proofs.Hearings.{AreReleased, ModemsOk, ok_outputs, modem_next}

-- ---- what the scheduler promises of the outputs of every list of commands

pub record AreScheduled (outs : List Output) : Type 0 where
  pub unicast : (modem ch sid first last : ℕ) → Contains outs (outputs.Assigned modem ch sid first last) → (1 ≤ sid) × (sid ≤ last_sid)
  pub one_owner : (ch m modem other : ℕ) → Owns outs ch m modem → Owns outs ch m other → modem ≡ other

scheduled : (cs : List Command) → AreScheduled (outputs_of cs)
scheduled cs = record { unicast = schedules.sids_are_unicast cs; one_owner = schedules.owners_are_one cs }

-- ---- what is heard stands in the outputs of the chosen values

contains_at : {X : Type 0} (xs : List X) (k : ℕ) (x : X) → slice_get xs k ≡ Some x → Contains xs x
contains_at [] k x is = absurd (cc (is))
contains_at (y ∷ xs) zero x is = (zero, omega arith, (let e : Some y ≡ Some x = is in cc (e)))
contains_at (y ∷ xs) (suc k) x is = let r = contains_at xs k x is in (suc r.0, omega (arith, r.1), r.2)

-- all that was heard stands there
heard_from : (outs : List Output) (released : List ReleasedOutput) → ((x : ReleasedOutput) → IsIn released x → Contains outs x.numbered.output) → (hearings : List Hearing) → AreReleased released hearings → HeardFrom outs hearings
heard_from outs released stand [] all = tt
heard_from outs released stand (h ∷ earlier) all = (subst (λ (o : Output). Contains outs o) all.0.2 (stand all.0.0 all.0.1), all.1, heard_from outs released stand earlier all.2)

-- a MAP that was heard near its start gives what it holds
gives_owned : (cs : List Command) (o : Output) (near ch m sid iuc id : ℕ) → AreScheduled (outputs_of cs) → Contains (outputs_of cs) o → IsTimely o near → Gives o near ch m sid iuc → IsLeased (outputs_of cs) id ch sid m → Owns (outputs_of cs) ch m id
gives_owned cs (outputs.Map c start len bytes) near ch m sid iuc id all there timely (map, begin, starts, gives) assigned =
    let drawn = is_drawn cs c start len bytes map there starts.body in
    let near_start : IsNear map.head.start near start = record { low = drawn.start_is; not_earlier = omega (arith, timely.0); earlier = timely.1; fits = drawn.bound } in
    let begins : begin ≡ start = near_once map.head.start near begin start starts.extension near_start in
    let channel : c ≡ ch = sym drawn.channel ∙ gives.channel in
    let sid_is : sid ≡ gives.cell.0.sid = sym gives.cell.2 in
    record {
      element = gives.cell.0;
      given = record {
        start = start;
        len = len;
        bytes = bytes;
        map = map;
        told = subst (λ (n : ℕ). Contains (outputs_of cs) (outputs.Map n start len bytes)) channel there;
        body = starts.body;
        begun = subst (λ (n : ℕ). n ≤ m) begins gives.from;
        cell = subst (λ (n : ℕ). IsCell map (m - n) gives.cell.0) begins gives.cell.1;
      };
      unicast = subst (λ (n : ℕ). (1 ≤ n) × (n ≤ last_sid)) sid_is (all.unicast id ch sid assigned.first assigned.last assigned.assigned);
      assigned = subst (λ (n : ℕ). IsLeased (outputs_of cs) id ch n m) sid_is assigned;
    }
gives_owned cs other near ch m sid iuc id all there timely gives assigned = absurd gives

-- what a modem that heard outputs of commands holds, it owns
pub held_owned : (cs : List Command) (id : ℕ) (hearings : List Hearing) (ch m sid iuc : ℕ) → HeardFrom (outputs_of cs) hearings → HeldBy id hearings ch m sid iuc → Owns (outputs_of cs) ch m id
held_owned cs id [] ch m sid iuc heard held = absurd held
held_owned cs id (h ∷ earlier) ch m sid iuc heard (inl now) =
    gives_owned cs h.output h.near ch m sid iuc id (scheduled cs) heard.0 heard.1 now.1 (leased_of (outputs_of cs) id earlier ch sid m heard.2 now.2)
held_owned cs id (h ∷ earlier) ch m sid iuc heard (inr before) = held_owned cs id earlier ch m sid iuc heard.2 before

-- ---- modems over runs

opening_receiver : (ids : List ℕ) (j : ℕ) (r : Receiver) → slice_get (map new_receiver ids) j ≡ Some r → (id : ℕ) × (slice_get ids j ≡ Some id) × (r ≡ new_receiver id)
opening_receiver [] j r is = absurd (cc (is))
opening_receiver (id ∷ ids) zero r is = (id, refl, (let e : Some (new_receiver id) ≡ Some r = is in cc (e)))
opening_receiver (id ∷ ids) (suc j) r is = opening_receiver ids j r is

opening_modems : (ids : List ℕ) → ModemsOk ids [] (map new_receiver ids) []
opening_modems ids = record {
  named = λ j r is. let o = opening_receiver ids j r is in o.1 ∙ ap (λ (x : Receiver). Some x.state.id) (sym o.2);
  stands = λ j r is. let o = opening_receiver ids j r is in subst (λ (x : Receiver). HasHeard x.state x.heard) (sym o.2) (new_stands o.0);
  heard = λ j r is. let o = opening_receiver ids j r is in subst (λ (x : Receiver). AreReleased [] x.heard) (sym o.2) tt;
  sends = λ x sid there is. absurd there;
}

abbrev Fine : List ℕ → Written → Type 0
Fine ids w = ModemsOk ids w.outputs w.modems w.transmissions

moved_modems : (members : ℕ) (ids : List ℕ) (w : Written) (happens : Event) (told : Answer) (w' : Written) → Moved members w happens told w' → Fine ids w → Fine ids w'
moved_modems members ids w happens told w' moved ok =
    ⊎_elim
    (λ same. subst (λ (ms : List Receiver). ModemsOk ids w'.outputs ms w'.transmissions) (sym same.0)
    (subst (λ (ts : List Transmission). ModemsOk ids w'.outputs w.modems ts) (sym same.1) (ok_outputs ids w.outputs w'.outputs w.modems w.transmissions moved.stays ok)))
    (λ on. subst (λ (ts : List Transmission). ModemsOk ids w'.outputs w'.modems ts) (sym on.1)
    (ok_outputs ids w.outputs w'.outputs w'.modems (w.transmissions ++ sent_at happens told) moved.stays (modem_next ids w.outputs w.modems w.transmissions ok happens told w'.modems on.0)))
    moved.modems

goes_modems : (members : ℕ) (ids : List ℕ) (w : Written) (script : List Event) (report : List Answer) (w' : Written) → IsFine members w → Fine ids w → Goes members w script report w' → Fine ids w'
goes_modems members ids w [] [] w' fine ok is = subst (Fine ids) (sym is) ok
goes_modems members ids w (event ∷ script) (answer ∷ report) w' fine ok goes =
    let moved = next_moves members w fine.inv event answer goes.0 goes.1 in
    goes_modems members ids goes.0 script report w' (next_fine members w event answer goes.0 fine moved) (moved_modems members ids w event answer goes.0 moved ok) goes.2
goes_modems members ids w [] (answer ∷ report) w' fine ok goes = absurd goes
goes_modems members ids w (event ∷ script) [] w' fine ok goes = absurd goes

run_modems : (members : ℕ) (ids : List ℕ) (script : List Event) (report : List Answer) (w : Written) → Run members ids script report w → Fine ids w
run_modems members ids script report w run = goes_modems members ids (opening members ids) script report w (opening_fine members ids) (opening_modems ids) run

pub modems_are_named : OfEveryRun ModemsAreNamed
modems_are_named members ids script report w run = (run_modems members ids script report w run).named

pub sent_is_held : OfEveryRun SentIsHeld
sent_is_held members ids script report w run x sid there is =
    let ok = run_modems members ids script report w run in
    let r = ok.sends x sid there is in
    (r.0.state.id, record { receiver = r.0; named = ok.named x.modem r.0 r.1; there = r.1; held = r.2 })

pub held_is_owned : OfEveryRun (WithSchedule HeldIsOwned)
held_is_owned members ids script report w run c schedule j id ch m sid at =
    let ok = run_modems members ids script report w run in
    let stand = λ (x : ReleasedOutput) (there : IsIn w.outputs x). (let r = released_is_output members ids script report w run c schedule x there in contains_at (outputs_of_values c) r.0 x.numbered.output r.2) in
    held_owned (map command_of c) id at.receiver.heard ch m sid at.held.0 (heard_from (outputs_of_values c) w.outputs stand at.receiver.heard (ok.heard j at.receiver at.there)) at.held.1

pub owners_are_one : OfEveryRun (WithSchedule OwnersAreOne)
owners_are_one members ids script report w run c schedule ch m id other a b = (scheduled (map command_of c)).one_owner ch m id other a b
