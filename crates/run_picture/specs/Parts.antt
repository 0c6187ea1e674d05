-- The parts of a run's picture: of each event, and of each letter.
use Rattle.std.specs.Prelude.{ℕ, ◌+◌, ◌-◌, Bool, true, false, nat_lt, if◌then◌else◌, List, ◌++◌, Option, Some, None}
use Rattle.std.specs.Prelude.{codes, decimal, length, slice_get}
use Rattle.ballots.specs.declared.letters.Letter.{Letter}
use Rattle.world_events.specs.declared.event.Event.{Event}
use Rattle.seats.specs.declared.answer.Answer.{Answer}
use Rattle.seats.specs.declared.answer.ReleasedOutput.{ReleasedOutput}
use Rattle.printed_answers.specs.Texts.{answer_text}
use Rattle.watched_runs.specs.Rows.{Row}
use Rattle.xml_text.specs.Xml.{Xml, said, shape, titled}
use Rattle.xml_text.specs.Xml.Tag.{Line, Words as WordsAt}
use Rattle.xml_text.specs.Xml.Xml.{Nothing}
use Rattle.run_picture.specs.declared.scene.Scene.{Scene}
use Rattle.run_picture.specs.declared.scene.Part.{Part}
use Rattle.run_picture.specs.declared.scene.Part.TheVariants.{Rule, Number, Happening, Answered, Mark, Arrow, Hearing}
use Rattle.run_picture.specs.declared.scene.Part.TheVariants.{Label, Told}
use Rattle.run_picture.specs.Lanes.{lane_of, lane_x, lanes_end, mark_x}
use Rattle.run_picture.specs.Marks.{has_failed, kind_name, mark_shape, mark_title}
use Rattle.run_picture.specs.Arrows.{delivered, heard, letter_arrow, letter_stub, output_arrow}
use Rattle.run_picture.specs.Roles.{comes_right, sight_told}
use Rattle.run_picture.specs.Rows.{first_row}
use Rattle.run_picture.specs.Words.{event_words, note_words}

abbrev pub lanes : Scene → ℕ
lanes s = s.members + s.modems

-- the lane of an event, and where it is marked
abbrev pub event_lane : Scene → Event → Option ℕ
event_lane s event = lane_of s.members s.modems s.letters.now event

abbrev pub event_x : Scene → Event → ℕ
event_x s event = mark_x (lanes s) (event_lane s event)

-- the row's thin line, the event's number, what happens, its answer
abbrev pub rule : Scene → ℕ → Xml
rule s y = shape (Line 212 y (lanes_end (lanes s)) y (codes "rule"))

abbrev pub number_words : ℕ → ℕ → Xml
number_words i y = said (WordsAt 34 (y + 4) (codes "m e mute")) (decimal i)

abbrev pub happening : Event → ℕ → Xml
happening event y = said (WordsAt 44 (y + 4) (codes "m")) (event_words event)

abbrev pub answer_class : Bool → List ℕ
answer_class true = codes "m bad"
answer_class false = codes "m mute"

abbrev pub answered : Scene → Answer → ℕ → Xml
answered s answer y = said (WordsAt (lanes_end (lanes s) + 8) (y + 4) (answer_class (has_failed answer))) (answer_text answer)

-- the mark of an event
abbrev pub mark : Scene → Row → ℕ → Xml
mark s row y =
    titled (mark_title row.number row.answer) (shape (mark_shape (has_failed row.answer) s.letters.now (event_x s row.event) y row.event row.answer))

-- the arrow of the letter that event i delivers
abbrev pub arrow_from : Scene → (i l : ℕ) → Option Letter → (sent first : Option ℕ) → ℕ → Xml
arrow_from s i l (Some letter) (Some sent) (Some first) y = letter_arrow (lanes s) (nat_lt first i) l letter sent y
arrow_from s i l letter sent first y = Nothing

abbrev pub arrow : Scene → ℕ → Option ℕ → ℕ → Xml
arrow s i None y = Nothing
arrow s i (Some l) y = arrow_from s i l (slice_get s.letters.now l) (slice_get s.senders.now l) (slice_get s.firsts.now l) y

-- the arrow of the output that a modem hears
abbrev pub hearing_from : Scene → (k o : ℕ) → Option ReleasedOutput → Option ℕ → ℕ → Xml
hearing_from s k o (Some output) (Some released) y = if nat_lt output.node s.members then output_arrow (lanes s) k o output released y else Nothing
hearing_from s k o output released y = Nothing

abbrev pub hearing : Scene → Option ℕ → Option ℕ → ℕ → Xml
hearing s (Some k) (Some o) y = hearing_from s k o (slice_get s.outputs.now o) (slice_get s.releasers.now o) y
hearing s k o y = Nothing

-- what the letter says, under the arrow's head, on the side that it comes from
abbrev pub label_on : Bool → (x y : ℕ) → Letter → Xml
label_on true x y letter = said (WordsAt (x - 11) (y + 13) (codes "s halo e f-" ++ kind_name letter.note)) (note_words letter.note)
label_on false x y letter = said (WordsAt (x + 11) (y + 13) (codes "s halo f-" ++ kind_name letter.note)) (note_words letter.note)

abbrev pub label_from : Scene → Option Letter → ℕ → Xml
label_from s (Some letter) y = label_on (nat_lt letter.from letter.to) (lane_x (lanes s) letter.to) y letter
label_from s None y = Nothing

abbrev pub label : Scene → Option ℕ → ℕ → Xml
label s (Some l) y = label_from s (slice_get s.letters.now l) y
label s None y = Nothing

-- a part of an event, whose row is at y
abbrev pub part_of : Scene → Part → Row → ℕ → Xml
part_of s Rule row y = rule s y
part_of s Number row y = number_words row.number y
part_of s Happening row y = happening row.event y
part_of s Answered row y = answered s row.answer y
part_of s Mark row y = mark s row y
part_of s Arrow row y = arrow s row.number (delivered row.event row.answer) y
part_of s Hearing row y = hearing s (event_lane s row.event) (heard row.event row.answer) y
part_of s Label row y = label s (delivered row.event row.answer) y
part_of s Told row y = sight_told (lanes s) s.members (comes_right s.letters.now (delivered row.event row.answer)) y row.sight

-- unless the row is at the upper edge
abbrev pub part_below : Scene → Part → Row → ℕ → Xml
part_below s part row y = if nat_lt y first_row then Nothing else part_of s part row y

abbrev pub part_for : Scene → Part → Option Row → Option ℕ → Xml
part_for s part (Some row) (Some y) = part_below s part row y
part_for s part row y = Nothing

-- a part of event i, of all, where that is drawn
abbrev pub part_at : Scene → Part → ℕ → Xml
part_at s part i = part_for s part (slice_get s.run.now.rows i) (slice_get s.rows.now i)

-- the stub of letter l, unless its sending is at the upper edge
abbrev pub stub_below : (lanes l : ℕ) → Letter → ℕ → Xml
stub_below lanes l letter y = if nat_lt y first_row then Nothing else letter_stub lanes l letter y

-- where its sending is drawn, unless it is delivered
abbrev pub stub_from : Scene → ℕ → Option Letter → Option ℕ → Xml
stub_from s l (Some letter) (Some sent) = stub_below (lanes s) l letter sent
stub_from s l letter sent = Nothing

abbrev pub stub_unless : Bool → Scene → ℕ → Xml
stub_unless true s l = Nothing
stub_unless false s l = stub_from s l (slice_get s.letters.now l) (slice_get s.senders.now l)

abbrev pub stub_past : Scene → ℕ → Option ℕ → Xml
stub_past s l None = Nothing
stub_past s l (Some first) = stub_unless (nat_lt first (length s.run.now.rows)) s l

abbrev pub stub_at : Scene → ℕ → Xml
stub_at s l = stub_past s l (slice_get s.firsts.now l)
