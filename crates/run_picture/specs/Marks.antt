-- The mark of an event: a shape for each kind, so that none is told by colour alone.
use Rattle.std.specs.Prelude.{ℕ, ◌-◌, Bool, true, false, List, ◌++◌, Option, Some, None, codes, decimal, slice_get}
use Rattle.ballots.specs.declared.letters.Letter.{Letter}
use Rattle.ballots.specs.declared.letters.Note.{Note}
use Rattle.ballots.specs.declared.letters.Note.TheVariants.{Prepare, Promise, Accept, Voted, Higher, Known}
use Rattle.world_events.specs.declared.event.Event.{Event}
use Rattle.world_events.specs.declared.event.Event.TheVariants.{Lead, Offer, Tell, Deliver, DeliverThenCrash, Crash}
use Rattle.world_events.specs.declared.event.Event.TheVariants.{Restart, Release, Hear, Want, Tick}
use Rattle.seats.specs.declared.answer.Answer.{Answer}
use Rattle.seats.specs.declared.answer.Answer.TheVariants.{Ticked, WantRefused, Refused, Fault, Crashed}
use Rattle.printed_answers.specs.Texts.{answer_text}
use Rattle.xml_text.specs.Xml.{Tag}
use Rattle.xml_text.specs.Xml.Tag.{Circle, Path}

-- whether an answer says that the event failed
abbrev pub has_failed : Answer → Bool
has_failed (WantRefused fault) = true
has_failed (Refused refusal) = true
has_failed (Fault fault) = true
has_failed Crashed = true
has_failed other = false

-- the class of a letter's kind
abbrev pub kind_name : Note → List ℕ
kind_name (Prepare ballot place) = codes "prepare"
kind_name (Promise ballot place votes) = codes "promise"
kind_name (Accept ballot place value) = codes "accept"
kind_name (Voted ballot place value) = codes "voted"
kind_name (Higher ballot) = codes "higher"
kind_name (Known place value) = codes "known"

-- a dot in the colour of the letter
abbrev pub letter_dot : (x y : ℕ) → Option Letter → Tag
letter_dot x y None = Circle x y 5 (codes "ring")
letter_dot x y (Some l) = Circle x y 4 (codes "f-" ++ kind_name l.note)

-- a path that begins at a point
abbrev pub path_at : (x y : ℕ) → (steps class : List ℕ) → Tag
path_at x y steps class = Path (codes "M" ++ (decimal x ++ (codes " " ++ (decimal y ++ steps)))) class

abbrev pub cross_at : (x y : ℕ) → Tag
cross_at x y = path_at (x - 5) (y - 5) (codes "l10 10m0 -10l-10 10") (codes "x sbad")

-- whether a modem had nothing to send
abbrev pub is_idle : Answer → Bool
is_idle (Ticked None) = true
is_idle other = false

-- a modem's minislot: a speck where it had nothing to send
abbrev pub tick_shape : Bool → (x y : ℕ) → Tag
tick_shape true x y = Circle x y 2 (codes "mute")
tick_shape false x y = path_at (x - 5) (y - 6) (codes "l12 6l-12 6z") (codes "f-ask")

-- the mark of an event that went well: triangle up asked to lead, square offered, triangle right tells or transmits,
-- dot delivered or heard, cross crashes, ring with a dot restarts, diamond releases, triangle down wants, speck idle
abbrev pub done_shape : List Letter → (x y : ℕ) → Event → Answer → Tag
done_shape letters x y (Lead k) answer = path_at x (y - 7) (codes "l7 12h-14z") (codes "f-prepare")
done_shape letters x y (Offer k value) answer = path_at (x - 5) (y - 5) (codes "h11v11h-11z") (codes "f-accept")
done_shape letters x y (Tell k to place) answer = path_at (x - 5) (y - 6) (codes "l12 6l-12 6z") (codes "f-known")
done_shape letters x y (Deliver i) answer = letter_dot x y (slice_get letters i)
done_shape letters x y (DeliverThenCrash i) answer = cross_at x y
done_shape letters x y (Crash k) answer = cross_at x y
done_shape letters x y (Restart k) answer = Circle x y 5 (codes "start")
done_shape letters x y (Release k now) answer = path_at x (y - 7) (codes "l7 7l-7 7l-7 -7z") (codes "f-output")
done_shape letters x y (Hear m i near) answer = Circle x y 4 (codes "f-output")
done_shape letters x y (Want m ch sid n) answer = path_at (x - 6) (y - 5) (codes "h12l-6 10z") (codes "f-ask")
done_shape letters x y (Tick m ch slot random) answer = tick_shape (is_idle answer) x y

-- a red ring where the event failed
abbrev pub mark_shape : Bool → List Letter → (x y : ℕ) → Event → Answer → Tag
mark_shape true letters x y event answer = Circle x y 5 (codes "ring")
mark_shape false letters x y event answer = done_shape letters x y event answer

-- what a mark tells when it is pointed at: the event's number and its answer
abbrev pub mark_title : ℕ → Answer → List ℕ
mark_title i answer = codes "event " ++ (decimal i ++ (codes ": " ++ answer_text answer))
