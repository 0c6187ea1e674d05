-- The picture of a run.
use Rattle.std.specs.Prelude.{◌≡◌, ℕ, nat_lt, ◌-◌, Bool, true, false, List, ◌++◌, Option, codes, decimal, length}
use Rattle.std.specs.Prelude.{slice_get}
use Rattle.xml_text.specs.Xml.{Drawn, Xml, drawing, join, render, said, shape}
use Rattle.xml_text.specs.Xml.Tag.{Line, Words}
use Rattle.xml_text.specs.Each.{each}
use Rattle.run_picture.specs.declared.scene.Scene.{Scene}
use Rattle.run_picture.specs.declared.scene.Part.{Part}
use Rattle.run_picture.specs.declared.scene.Part.TheVariants.{Rule, Number, Happening, Answered, Mark, Arrow, Hearing}
use Rattle.run_picture.specs.declared.scene.Part.TheVariants.{Label, Told}
use Rattle.run_picture.specs.Arrows.{AreFirsts}
use Rattle.run_picture.specs.Lanes.{lane_x}
use Rattle.run_picture.specs.Rows.{first_row, givers_within, released_count, rows_within, sent_count}
use Rattle.run_picture.specs.Parts.{lanes, part_at, stub_at}
use Rattle.run_picture.specs.Roles.{bands_from, chosen_from}
use Rattle.watched_runs.specs.Choices.{choices}
use Rattle.watched_runs.specs.Rows.{Seen}
use Rattle.watched_runs.specs.declared.post.Post.TheVariants.{Idle}

-- a part of each event, in order
abbrev pub of_events : Scene → Part → Xml
of_events s part = each (length s.run.now.rows) (part_at s part)

-- the line of lane k, down to the bottom, and its name
abbrev pub lane_line : Scene → (bottom k : ℕ) → Xml
lane_line s bottom k = shape (Line (lane_x (lanes s) k) 132 (lane_x (lanes s) k) bottom (codes "lane"))

abbrev pub name_if : Bool → (members k : ℕ) → List ℕ
name_if true members k = codes "node " ++ decimal k
name_if false members k = codes "modem " ++ decimal (k - members)

abbrev pub lane_name : Scene → ℕ → Xml
lane_name s k = said (Words (lane_x (lanes s) k) 124 (codes "c b")) (name_if (nat_lt k s.members) s.members k)

-- the bands of node k
abbrev pub node_bands : Scene → (bottom k : ℕ) → Xml
node_bands s bottom k = bands_from (lanes s) bottom k s.run.now.rows Idle first_row 0 s.rows.now

-- the line where letter l shows that a place is chosen
abbrev pub chosen_at : Scene → ℕ → Xml
chosen_at s l = chosen_from (lanes s) (slice_get s.choices.now l) (slice_get s.senders.now l)

-- the layers: thin lines of rows and lines where places are chosen, bands and lanes down to the bottom, arrows and
-- stubs, and words behind a legend
abbrev pub rules_of : Scene → Xml
rules_of s = join (of_events s Rule) (each (length s.letters.now) (chosen_at s))

abbrev pub bands_of : Scene → (bottom : ℕ) → Xml
bands_of s bottom = join (each s.members (node_bands s bottom)) (each (lanes s) (lane_line s bottom))

abbrev pub arrows_of : Scene → Xml
arrows_of s = join (join (of_events s Arrow) (of_events s Hearing)) (each (length s.letters.now) (stub_at s))

abbrev pub labels_of : Scene → (legend : Xml) → Xml
labels_of s legend =
    join (join (join (join (join (join legend (each (lanes s) (lane_name s))) (of_events s Number)) (of_events s Happening)) (of_events s Answered)) (of_events s Label)) (of_events s Told)

abbrev pub layers : Scene → (bottom : ℕ) → (legend : Xml) → Drawn
layers s bottom legend = record { rules = rules_of s; bands = bands_of s bottom; arrows = arrows_of s; marks = of_events s Mark; labels = labels_of s legend }

-- a scene of so many nodes, with modems of these ids, and of a run, with the row of each event and of what gave each
-- letter and each output, as far as these are drawn, and the first event that delivers each letter
pub record IsSceneOf (s : Scene) (members : ℕ) (ids : List ℕ) (span : ℕ × ℕ) (run : Seen) : Type 0 where
  pub members_told : s.members ≡ members
  pub modems_told : s.modems ≡ length ids
  pub span_told : s.span ≡ span
  pub run_told : s.run.now ≡ run
  pub letters_told : s.letters.now ≡ run.letters
  pub outputs_told : s.outputs.now ≡ run.outputs
  pub rows_told : s.rows.now ≡ rows_within span run.rows
  pub senders_told : s.senders.now ≡ givers_within sent_count span run.rows
  pub releasers_told : s.releasers.now ≡ givers_within released_count span run.rows
  pub firsts_told : AreFirsts s.firsts.now (length run.letters) run.rows
  pub choices_told : s.choices.now ≡ choices members run.letters

-- a text draws a scene: in some size, with some title, style, definitions and legend
pub record Draws (s : Scene) (text : List ℕ) : Type 0 where
  pub width : ℕ
  pub height : ℕ
  pub title : List ℕ
  pub style : List ℕ
  pub definitions : Xml
  pub bottom : ℕ
  pub legend : Xml
  pub rendered : text ≡ render (drawing width height title style definitions (layers s bottom legend))

-- a text is a picture of the events of a run from a number on, and before another one
abbrev pub IsPictureOf : (members : ℕ) → (ids : List ℕ) → ℕ × ℕ → Seen → List ℕ → Type 0
IsPictureOf members ids span run text = (s : Scene) × IsSceneOf s members ids span run × Draws s text
