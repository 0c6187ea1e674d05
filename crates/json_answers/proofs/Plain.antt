-- What is said of an event as JSON has no fraction, and hardly nests.
use Rattle.std.proofs.Common.{◌≡◌, ℕ, ◌≤◌, false, List, [], ◌∷◌, codes, Option, Some, None, refl, sym, subst, arith}
use Rattle.std.proofs.Math.Nat.{max-le}
use Rattle.std.specs.List.{AllZip}
use Rattle.modem.specs.declared.types.Sending.{Sending}
use Rattle.modem.specs.declared.types.Sending.TheVariants.{Unicast, Polled, Request, Ranging}
use Rattle.modem.specs.Wants.{number_of_fault}
use Rattle.proposer.specs.Faults.{node_fault_number}
use Rattle.world_events.specs.Refusals.{event_refusal_number}
use Rattle.seats.specs.declared.answer.Answer.{Answer}
use Rattle.seats.specs.declared.answer.Answer.TheVariants.{Sent, Finished, Released, Heard, Ticked, WantRefused}
use Rattle.seats.specs.declared.answer.Answer.TheVariants.{Refused, Fault, Crashed}
use Rattle.seats.specs.declared.answer.ReleasedOutput.{ReleasedOutput}
use Rattle.printed_answers.specs.Texts.{heard_text, refusal_name, fault_name}
use Rattle.serde_json.specs.Data.{Data, array, object, Members, no_members, put, depth, items_depth}
use Rattle.serde_json.specs.View.{items_of}
use Rattle.serde_json.specs.Written.{items_have_float}
use Rattle.json_outputs.specs.Fields.{with_number}
use Rattle.json_outputs.specs.Texts.{IsPlain}
use Rattle.json_outputs.proofs.Callers.{Small, AreSmall, both, none_small, field_small, with_number_small}
use Rattle.json_outputs.proofs.Callers.{with_text_small, with_time_small, object_small, output_small}
use Rattle.watched_runs.specs.Rows.{Row}
use Rattle.watched_runs.specs.declared.post.Post.{Post}
use Rattle.watched_runs.specs.declared.post.Post.TheVariants.{Down, Idle, Prepares, Leads}
use Rattle.watched_runs.specs.declared.sight.Sight.{Sight}
use Rattle.json_answers.proofs.PlainLetters.{letters_small}
use Rattle.json_answers.specs.Names.{want_fault_name}
use Rattle.json_answers.specs.Answers.{with_name, with_sid, with_sending, with_fault, with_answer}
use Rattle.json_answers.specs.Events.{place_members, TellsRelease, TellsEvent, event_members, counts_data, with_changed}
use Rattle.json_answers.specs.Events.{with_learned, with_sight, with_trace}

-- the fields of an answer
name_small : (k : ℕ) (name : List ℕ) (ms : Members) → AreSmall k ms → AreSmall k (with_name name ms)
name_small k name ms xs = with_text_small k (codes "answer") name ms xs

sid_small : (k : ℕ) (name : List ℕ) (sid n : ℕ) (ms : Members) → AreSmall k ms → AreSmall k (with_sid name sid n ms)
sid_small k name sid n ms xs = with_number_small k (codes "minislots") n _ (with_number_small k (codes "sid") sid _ (name_small k name ms xs))

sending_small : (k : ℕ) (sending : Option Sending) (ms : Members) → AreSmall k ms → AreSmall k (with_sending sending ms)
sending_small k None ms xs = name_small k (codes "idle") ms xs
sending_small k (Some (Unicast sid)) ms xs = with_number_small k (codes "sid") sid _ (name_small k (codes "unicast") ms xs)
sending_small k (Some (Polled sid n)) ms xs = sid_small k (codes "polled") sid n ms xs
sending_small k (Some (Request sid n)) ms xs = sid_small k (codes "request") sid n ms xs
sending_small k (Some (Ranging sid)) ms xs = with_number_small k (codes "sid") sid _ (name_small k (codes "ranging") ms xs)

fault_small : (k : ℕ) (answer : List ℕ) (n : ℕ) (name : List ℕ) (ms : Members) → AreSmall k ms → AreSmall k (with_fault answer n name ms)
fault_small k answer n name ms xs = with_text_small k (codes "name") name _ (with_number_small k (codes "number") n _ (name_small k answer ms xs))

answer_small : (k : ℕ) (a : Answer) (ms : Members) → AreSmall k ms → AreSmall k (with_answer a ms)
answer_small k (Sent n) ms xs = with_number_small k (codes "letters") n _ (name_small k (codes "sent") ms xs)
answer_small k Finished ms xs = name_small k (codes "done") ms xs
answer_small k (Released n) ms xs = with_number_small k (codes "count") n _ (name_small k (codes "released") ms xs)
answer_small k (Heard heard) ms xs = with_text_small k (codes "heard") (heard_text heard) _ (name_small k (codes "heard") ms xs)
answer_small k (Ticked sending) ms xs = sending_small k sending ms xs
answer_small k (WantRefused fault) ms xs = fault_small k (codes "want-refused") (number_of_fault fault) (want_fault_name fault) ms xs
answer_small k (Refused refusal) ms xs = fault_small k (codes "refused") (event_refusal_number refusal) (refusal_name refusal) ms xs
answer_small k (Fault fault) ms xs = fault_small k (codes "fault") (node_fault_number fault) (fault_name fault) ms xs
answer_small k Crashed ms xs = name_small k (codes "crashed") ms xs

-- an output that was released
release_small : (x : ReleasedOutput) (d : Data) → TellsRelease x d → Small 3 d
release_small x d (ms, told, is) =
    let place = with_number_small 2 (codes "place") x.numbered.place _ (with_number_small 2 (codes "node") x.node no_members (none_small 2)) in
    rw is (object_small 2 ms (output_small x.numbered.output (place_members x) ms told place))

releases_whole : (xs : List ReleasedOutput) (ds : List Data) → AllZip TellsRelease xs ds → items_have_float (items_of ds) ≡ false
releases_whole [] [] told = refl
releases_whole [] (d ∷ ds) told = absurd told
releases_whole (x ∷ xs) [] told = absurd told
releases_whole (x ∷ xs) (d ∷ ds) told = both _ _ (release_small x d told.0).whole (releases_whole xs ds told.1)

releases_shallow : (xs : List ReleasedOutput) (ds : List Data) → AllZip TellsRelease xs ds → items_depth (items_of ds) ≤ 3
releases_shallow [] [] told = omega arith
releases_shallow [] (d ∷ ds) told = absurd told
releases_shallow (x ∷ xs) [] told = absurd told
releases_shallow (x ∷ xs) (d ∷ ds) told = max-le (release_small x d told.0).shallow (releases_shallow xs ds told.1)

releases_small : (xs : List ReleasedOutput) (ds : List Data) → AllZip TellsRelease xs ds → Small 4 (array (items_of ds))
releases_small xs ds told = record { whole = releases_whole xs ds told; shallow = let below = releases_shallow xs ds told in omega arith }

fields_small : (row : Row) (ds : List Data) → AllZip TellsRelease row.released ds → AreSmall 4 (put (codes "outputs") (array (items_of ds)) (event_members row))
fields_small row ds told =
    let fields = answer_small 4 row.answer (with_number (codes "event") row.number no_members) (with_number_small 4 (codes "event") row.number no_members (none_small 4)) in
    field_small 4 (codes "outputs") (array (items_of ds)) (event_members row) (releases_small row.released ds told) fields

object_plain : (ms : Members) → AreSmall 4 ms → IsPlain (object ms)
object_plain ms xs =
    let all = object_small 4 ms xs in
    let below : depth (object ms) ≤ 5 = all.shallow in
    (all.whole, omega arith)

same_members : (a b : Members) → object a ≡ object b → a ≡ b
same_members a b e = cc

-- what is said of an event, with its trace too, and the counts
pub event_plain : (row : Row) (ds : List Data) → AllZip TellsRelease row.released ds → IsPlain (object (put (codes "outputs") (array (items_of ds)) (event_members row)))
event_plain row ds told = object_plain _ (fields_small row ds told)

post_small : (k : ℕ) (post : Option Post) (ms : Members) → AreSmall k ms → AreSmall k (with_changed post ms)
post_small k None ms xs = xs
post_small k (Some Down) ms xs = with_text_small k (codes "post") (codes "down") ms xs
post_small k (Some Idle) ms xs = with_text_small k (codes "post") (codes "idle") ms xs
post_small k (Some (Prepares b)) ms xs = with_time_small k (codes "ballot") b _ (with_text_small k (codes "post") (codes "prepares") ms xs)
post_small k (Some (Leads b)) ms xs = with_time_small k (codes "ballot") b _ (with_text_small k (codes "post") (codes "leads") ms xs)

learned_small : (k : ℕ) (learned : Option ℕ) (ms : Members) → AreSmall k ms → AreSmall k (with_learned learned ms)
learned_small k None ms xs = xs
learned_small k (Some place) ms xs = with_number_small k (codes "learned") place ms xs

sight_small : (k : ℕ) (sight : Option Sight) (ms : Members) → AreSmall k ms → AreSmall k (with_sight sight ms)
sight_small k None ms xs = xs
sight_small k (Some sight) ms xs =
    learned_small k sight.learned _ (post_small k sight.post _ (with_number_small k (codes "node") sight.node ms xs))

pub trace_plain : (row : Row) (ms : Members) → TellsEvent row (object ms) → IsPlain (object (with_trace row ms))
trace_plain row ms (ds, told, is) =
    let fields : AreSmall 4 ms = subst (AreSmall 4) (sym (same_members ms _ is)) (fields_small row ds told) in
    object_plain _ (sight_small 4 row.sight _ (letters_small (codes "sent") row.sent.0 row.sent.1 _
    (letters_small (codes "came") row.came.0 row.came.1 ms fields)))

pub counts_plain : (letters outputs transmissions : ℕ) → IsPlain (counts_data letters outputs transmissions)
counts_plain letters outputs transmissions =
    let all = object_small 0 _ (with_number_small 0 (codes "transmissions") transmissions _ (with_number_small 0 (codes "outputs") outputs _
    (with_number_small 0 (codes "letters") letters _ (none_small 0)))) in
    let below = all.shallow in
    (all.whole, omega arith)
