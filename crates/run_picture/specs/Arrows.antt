-- Arrows from the row of a sending to that of a delivery, and stubs of letters that are never delivered.
use Rattle.std.specs.Prelude.{◌≡◌, ℕ, ◌+◌, ◌-◌, ◌*◌, ◌<◌, ◌==◌, nat_lt, Bool, true, false, if◌then◌else◌, List, [], ◌∷◌}
use Rattle.std.specs.Prelude.{◌++◌, Option, Some, None, codes, decimal, get_or, length}
use Rattle.ballots.specs.declared.letters.Letter.{Letter}
use Rattle.world_events.specs.declared.event.Event.{Event}
use Rattle.world_events.specs.declared.event.Event.TheVariants.{Deliver, DeliverThenCrash, Hear}
use Rattle.seats.specs.declared.answer.Answer.{Answer}
use Rattle.seats.specs.declared.answer.ReleasedOutput.{ReleasedOutput}
use Rattle.command_words.specs.Letters.{named_letter_text}
use Rattle.watched_runs.specs.Rows.{Row}
use Rattle.xml_text.specs.Xml.{Xml, shape, titled}
use Rattle.xml_text.specs.Xml.Tag.{Path}
use Rattle.run_picture.specs.Lanes.{lane_x}
use Rattle.run_picture.specs.Marks.{has_failed, kind_name}

-- which letter an event brings, and which output
abbrev pub letter_brought : Event → Option ℕ
letter_brought (Deliver i) = Some i
letter_brought (DeliverThenCrash i) = Some i
letter_brought other = None

abbrev pub output_brought : Event → Option ℕ
output_brought (Hear m i near) = Some i
output_brought other = None

-- which letter is delivered, where the delivery was answered
abbrev pub unless : Bool → Option ℕ → Option ℕ
unless true brought = None
unless false brought = brought

abbrev pub delivered : Event → Answer → Option ℕ
delivered event answer = unless (has_failed answer) (letter_brought event)

abbrev pub heard : Event → Answer → Option ℕ
heard event answer = unless (has_failed answer) (output_brought event)

abbrev pub is_this : ℕ → Option ℕ → Bool
is_this l None = false
is_this l (Some k) = k == l

-- the number of the first of these events that delivers letter l, where they are numbered from i on, or that of the end
-- where none does
abbrev pub first_from : (l i : ℕ) → List Row → ℕ
first_from l i [] = i
first_from l i (row ∷ rows) = if is_this l (delivered row.event row.answer) then i else first_from l (i + 1) rows

-- these are the numbers of the first events that deliver so many letters
pub record AreFirsts (firsts : List ℕ) (count : ℕ) (rows : List Row) : Type 0 where
  pub size : length firsts ≡ count
  pub first : (l : ℕ) → l < count → get_or firsts l 0 ≡ first_from l 0 rows

-- from a point to another below it: straight, or a bow on the right where it is to itself
abbrev pub bow : (x y1 y2 : ℕ) → List ℕ
bow x y1 y2 =
    codes "M" ++ (decimal (x + 5) ++ (codes " " ++ (decimal y1 ++ (codes "C" ++ (decimal (x + 34) ++ (codes " " ++ (decimal y1
    ++ (codes " " ++ (decimal (x + 34) ++ (codes " " ++ (decimal y2 ++ (codes " " ++ (decimal (x + 6) ++ (codes " " ++ decimal y2))))))))))))))

abbrev pub straight : (x1 y1 x2 y2 : ℕ) → List ℕ
straight x1 y1 x2 y2 = codes "M" ++ (decimal x1 ++ (codes " " ++ (decimal y1 ++ (codes "L" ++ (decimal x2 ++ (codes " " ++ decimal y2))))))

abbrev pub arrow_steps : (x1 y1 x2 y2 : ℕ) → List ℕ
arrow_steps x1 y1 x2 y2 =
    if x1 == x2 then bow x1 y1 y2 else (if nat_lt x1 x2 then straight (x1 + 6) y1 (x2 - 7) y2 else straight (x1 - 6) y1 (x2 + 7) y2)

-- what a letter's arrow or stub tells: the letter, with the commands that its values spell
abbrev pub letter_title : ℕ → Letter → List ℕ
letter_title l letter = codes "letter " ++ (decimal l ++ (codes " " ++ named_letter_text letter))

abbrev pub arrow_class : Bool → List ℕ → List ℕ
arrow_class true kind = codes "a s-" ++ (kind ++ (codes " h-" ++ (kind ++ codes " again")))
arrow_class false kind = codes "a s-" ++ (kind ++ (codes " h-" ++ kind))

-- the arrow of letter l, sent in a row at y1 and delivered in one at y2, dashed where it was delivered before
abbrev pub letter_arrow : (lanes : ℕ) → (again : Bool) → (l : ℕ) → Letter → (y1 y2 : ℕ) → Xml
letter_arrow lanes again l letter y1 y2 =
    titled (letter_title l letter) (shape (Path (arrow_steps (lane_x lanes letter.from) y1 (lane_x lanes letter.to) y2) (arrow_class again (kind_name letter.note))))

-- the arrow of output i, which a modem hears, whose lane is k
abbrev pub output_title : ℕ → ReleasedOutput → List ℕ
output_title i output = codes "output " ++ (decimal i ++ (codes " of node " ++ (decimal output.node ++ (codes " place " ++ decimal output.numbered.place))))

abbrev pub output_arrow : (lanes k i : ℕ) → ReleasedOutput → (y1 y2 : ℕ) → Xml
output_arrow lanes k i output y1 y2 =
    titled (output_title i output) (shape (Path (arrow_steps (lane_x lanes output.node) y1 (lane_x lanes k) y2) (codes "a s-output h-output weak")))

-- the stub of letter l, sent in a row at y: a short line with a cross, one beside another by addressee
abbrev pub stub_steps : (x y to : ℕ) → List ℕ
stub_steps x y to =
    codes "M" ++ (decimal x ++ (codes " " ++ (decimal (y + 5) ++ (codes "L" ++ (decimal ((x + 8 * to) - 16) ++ (codes " " ++ (decimal (y + 12) ++ codes "m-2 -2l5 5m0 -5l-5 5")))))))

abbrev pub stub_title : ℕ → Letter → List ℕ
stub_title l letter = codes "never delivered: " ++ letter_title l letter

abbrev pub letter_stub : (lanes l : ℕ) → Letter → ℕ → Xml
letter_stub lanes l letter y = titled (stub_title l letter) (shape (Path (stub_steps (lane_x lanes letter.from) y letter.to) (codes "x s-" ++ kind_name letter.note)))
