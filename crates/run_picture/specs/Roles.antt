-- Who prepares and leads, as bands on lanes; what is told of it beside marks; and lines where places are chosen.
use Rattle.std.specs.Prelude.{ℕ, ◌+◌, ◌-◌, ◌==◌, nat_lt, Bool, true, false, not, if◌then◌else◌, List, [], ◌∷◌, ◌++◌}
use Rattle.std.specs.Prelude.{Option, Some, None, codes, decimal, slice_get}
use Rattle.ballots.specs.declared.letters.Letter.{Letter}
use Rattle.watched_runs.specs.Rows.{Row}
use Rattle.watched_runs.specs.declared.post.Post.{Post}
use Rattle.watched_runs.specs.declared.post.Post.TheVariants.{Down, Idle, Prepares, Leads}
use Rattle.watched_runs.specs.declared.sight.Sight.{Sight}
use Rattle.watched_runs.specs.Texts.{post_text}
use Rattle.xml_text.specs.Xml.{Xml, join, said, shape, titled}
use Rattle.xml_text.specs.Xml.Tag.{Line, Path, Words}
use Rattle.xml_text.specs.Xml.Xml.{Nothing}
use Rattle.run_picture.specs.Lanes.{lane_x, lanes_end}
use Rattle.run_picture.specs.Rows.{first_row}

-- the new post of node k, where this is seen of it
abbrev pub post_if : Bool → Option Post → Option Post
post_if true post = post
post_if false post = None

abbrev pub post_seen : ℕ → Option Sight → Option Post
post_seen k None = None
post_seen k (Some sight) = post_if (sight.node == k) sight.post

abbrev pub new_post : ℕ → Option Row → Option Post
new_post k None = None
new_post k (Some row) = post_seen k row.sight

-- a band round x from one row to another
abbrev pub band_steps : (x y1 y2 : ℕ) → List ℕ
band_steps x y1 y2 = codes "M" ++ (decimal (x - 9) ++ (codes " " ++ (decimal y1 ++ (codes "h18V" ++ (decimal y2 ++ codes "h-18z")))))

-- the band of node k while it has a post: none where it does nothing
abbrev pub band_title : ℕ → Post → List ℕ
band_title k post = codes "node " ++ (decimal k ++ (codes " " ++ post_text post))

abbrev pub band_class : Post → Option (List ℕ)
band_class Down = Some (codes "down")
band_class Idle = None
band_class (Prepares ballot) = Some (codes "prep")
band_class (Leads ballot) = Some (codes "lead")

abbrev pub band_of_class : (lanes k : ℕ) → Post → (y1 y2 : ℕ) → Option (List ℕ) → Xml
band_of_class lanes k post y1 y2 None = Nothing
band_of_class lanes k post y1 y2 (Some class) = titled (band_title k post) (shape (Path (band_steps (lane_x lanes k) y1 y2) class))

abbrev pub band : (lanes k : ℕ) → Post → (y1 y2 : ℕ) → Xml
band lanes k post y1 y2 = band_of_class lanes k post y1 y2 (band_class post)

-- it ends where the node has another post, and there that post's band begins; at the upper edge it only begins
abbrev pub band_to : (lanes k : ℕ) → Post → (y1 y2 : ℕ) → Xml
band_to lanes k post y1 y2 = if nat_lt y2 first_row then Nothing else band lanes k post y1 y2

abbrev pub band_if : (lanes k : ℕ) → Post → (y1 y2 : ℕ) → Option Post → Xml
band_if lanes k post y1 y2 None = Nothing
band_if lanes k post y1 y2 (Some next) = band_to lanes k post y1 y2

abbrev pub post_after : Post → Option Post → Post
post_after post None = post
post_after post (Some next) = next

abbrev pub row_after : ℕ → ℕ → Option Post → ℕ
row_after start y None = start
row_after start y (Some next) = y

-- the bands of node k from event i of a run on, whose rows are at these places: it has had a post since the row start
abbrev pub bands_from : (lanes bottom k : ℕ) → List Row → Post → (start i : ℕ) → List ℕ → Xml
bands_from lanes bottom k run post start i [] = band lanes k post start bottom
bands_from lanes bottom k run post start i (y ∷ places) =
    join (band_if lanes k post start y (new_post k (slice_get run i)))
    (bands_from lanes bottom k run (post_after post (new_post k (slice_get run i))) (row_after start y (new_post k (slice_get run i))) (i + 1) places)

-- what is told of a node beside a mark, on the side from which no letter came
abbrev pub told_at : Bool → (x y : ℕ) → List ℕ → Xml
told_at true x y text = said (Words (x - 11) (y + 4) (codes "s halo e b")) text
told_at false x y text = said (Words (x + 11) (y + 4) (codes "s halo b")) text

abbrev pub post_told : Bool → (x y : ℕ) → Option Post → Xml
post_told left x y None = Nothing
post_told left x y (Some post) = told_at left x y (post_text post)

abbrev pub learned_told : Bool → (x y : ℕ) → Option ℕ → Xml
learned_told left x y None = Nothing
learned_told left x y (Some place) = told_at left x y (codes "learned p" ++ decimal place)

abbrev pub node_told : (x : ℕ) → Bool → ℕ → Sight → Xml
node_told x left y sight = join (post_told left x y sight.post) (learned_told left x y sight.learned)

abbrev pub sight_told : (lanes members : ℕ) → Bool → ℕ → Option Sight → Xml
sight_told lanes members left y None = Nothing
sight_told lanes members left y (Some sight) = if nat_lt sight.node members then node_told (lane_x lanes sight.node) left y sight else Nothing

-- whether a letter comes from the right, or from the node itself: then what it says stands on the right
abbrev pub from_right : Option Letter → Bool
from_right None = false
from_right (Some letter) = not (nat_lt letter.from letter.to)

abbrev pub comes_right : List Letter → Option ℕ → Bool
comes_right letters None = false
comes_right letters (Some l) = from_right (slice_get letters l)

-- the line across all lanes where a letter that is sent in the row y shows that a place is chosen, if that is drawn
abbrev pub chosen_line : (lanes y p : ℕ) → Xml
chosen_line lanes y p =
    join (shape (Line 212 y (lanes_end lanes) y (codes "chosen"))) (said (Words (lanes_end lanes + 70) (y + 4) (codes "s b")) (codes "p" ++ (decimal p ++ codes " chosen")))

abbrev pub chosen_if : (lanes : ℕ) → Option ℕ → ℕ → Xml
chosen_if lanes None y = Nothing
chosen_if lanes (Some p) y = if nat_lt y first_row then Nothing else chosen_line lanes y p

abbrev pub chosen_from : (lanes : ℕ) → Option (Option ℕ) → Option ℕ → Xml
chosen_from lanes (Some place) (Some y) = chosen_if lanes place y
chosen_from lanes place row = Nothing
