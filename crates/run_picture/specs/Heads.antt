-- What is drawn above a run.
use Rattle.std.specs.Prelude.{◌≡◌, ◌==◌, ◌&&◌, ◌-◌, nat_le, if◌then◌else◌, ℕ, List, ◌++◌, codes, decimal}
use Rattle.xml_text.specs.Xml.{Xml, render, said}
use Rattle.xml_text.specs.Xml.Tag.{Words}

-- a text is the rendering of elements
abbrev pub IsRendered : List ℕ → Type 0
IsRendered text = (x : Xml) × (text ≡ render x)

-- the name of a kind of arrows, in its colour
abbrev pub kind_key : ℕ → List ℕ → Xml
kind_key x kind = said (Words x 92 (codes "b f-" ++ kind)) kind

-- so many of what has a name, which is in the singular for one
unfoldable pub counted : ℕ → List ℕ → List ℕ
counted count name = if count == 1 then decimal count ++ (codes " " ++ name) else decimal count ++ (codes " " ++ (name ++ codes "s"))

-- how many nodes, modems, events and letters there are
unfoldable pub run_words : (members modems events letters : List ℕ) → List ℕ
run_words members modems events letters =
    codes "A run of " ++ (members ++ (codes " and " ++ (modems ++ (codes ": " ++ (events ++ (codes " from the top down, " ++ letters))))))

-- how many events there are, or which of them are drawn
unfoldable pub events_words : (span : ℕ × ℕ) → (events : ℕ) → List ℕ
events_words (from, end) events =
    if (from == 0) && nat_le events end then counted events (codes "event")
    else codes "events " ++ (decimal from ++ (codes " to " ++ (decimal (end - 1) ++ (codes " of " ++ decimal events))))

abbrev pub counts_words : (members modems : ℕ) → (span : ℕ × ℕ) → (events letters : ℕ) → Xml
counts_words members modems span events letters =
    said (Words 16 26 (codes "h"))
    (run_words (counted members (codes "node")) (counted modems (codes "modem")) (events_words span events) (counted letters (codes "letter")))
