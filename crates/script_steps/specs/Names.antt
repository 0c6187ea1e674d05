-- Letters by name: which letter is meant.
use Rattle.std.specs.Prelude.{ℕ, Bool, true, false, not, ◌&&◌, ◌==◌, List, Option, Some, None, filter, find, reverse}
use Rattle.std.specs.Prelude.{length, slice_get}
use Rattle.std.specs.List.{list_any, range_with_len}
use Rattle.ballots.specs.declared.letters.Letter.{Letter}
use Rattle.ballots.specs.declared.letters.Note.{Note}
use Rattle.ballots.specs.declared.letters.Note.TheVariants as notes
use Rattle.script_steps.specs.declared.name.Kind.{Kind}
use Rattle.script_steps.specs.declared.name.Kind.TheVariants.{Prepare, Promise, Accept, Voted, Higher, Known}
use Rattle.script_steps.specs.declared.name.Name.{Name}
use Rattle.script_steps.specs.declared.name.About.{About}
use Rattle.script_steps.specs.declared.name.Parts.{Parts}

-- ---- which letters a name fits

-- a number that is named is the one that a letter has; where none is named, each fits
abbrev pub fits_part : Option ℕ → Option ℕ → Bool
fits_part None has = true
fits_part (Some n) None = false
fits_part (Some n) (Some m) = n == m

-- the kind of a note
abbrev pub kind_of : Note → Kind
kind_of (notes.Prepare ballot place) = Prepare
kind_of (notes.Promise ballot place votes) = Promise
kind_of (notes.Accept ballot place value) = Accept
kind_of (notes.Voted ballot place value) = Voted
kind_of (notes.Higher ballot) = Higher
kind_of (notes.Known place value) = Known

abbrev pub is_same_kind : Kind → Kind → Bool
is_same_kind Prepare Prepare = true
is_same_kind Promise Promise = true
is_same_kind Accept Accept = true
is_same_kind Voted Voted = true
is_same_kind Higher Higher = true
is_same_kind Known Known = true
is_same_kind kind other = false

-- likewise of a kind
abbrev pub fits_kind : Option Kind → Kind → Bool
fits_kind None has = true
fits_kind (Some kind) has = is_same_kind kind has

-- the ballot of a note, and the place of which it tells or from which on it asks, if it has one
abbrev pub ballot_of : Note → Option ℕ
ballot_of (notes.Prepare ballot place) = Some ballot
ballot_of (notes.Promise ballot place votes) = Some ballot
ballot_of (notes.Accept ballot place value) = Some ballot
ballot_of (notes.Voted ballot place value) = Some ballot
ballot_of (notes.Higher ballot) = Some ballot
ballot_of (notes.Known place value) = None

abbrev pub place_of : Note → Option ℕ
place_of (notes.Prepare ballot place) = Some place
place_of (notes.Promise ballot place votes) = Some place
place_of (notes.Accept ballot place value) = Some place
place_of (notes.Voted ballot place value) = Some place
place_of (notes.Higher ballot) = None
place_of (notes.Known place value) = Some place

-- from whom, to whom, and of what kind a letter is
abbrev pub about_of : Letter → About
about_of l = record { from = l.from; to = l.to; kind = kind_of l.note }

-- what a name says of that
abbrev pub parts_of : Name → Parts
parts_of name = record { from = name.from; to = name.to; kind = name.kind }

abbrev pub has_parts : Parts → About → Bool
has_parts parts about =
    fits_part parts.from (Some about.from) && (fits_part parts.to (Some about.to) && fits_kind parts.kind about.kind)

-- the letter has all that is named
abbrev pub fits : Name → Letter → Bool
fits name l =
    has_parts (parts_of name) (about_of l) && (fits_part name.ballot (ballot_of l.note) && fits_part name.place (place_of l.note))

-- ---- which one is meant

-- the letter of this number, if it was sent, has all that is named
abbrev pub fits_sent : Name → Option Letter → Bool
fits_sent name None = false
fits_sent name (Some l) = fits name l

abbrev pub fits_at : Name → List Letter → ℕ → Bool
fits_at name letters i = fits_sent name (slice_get letters i)

-- the letter of this number came
abbrev pub has_come : List ℕ → ℕ → Bool
has_come came i = list_any (λ j. j == i) came

-- the numbers below this one without those that came, in order
abbrev pub waiting : ℕ → List ℕ → List ℕ
waiting sent came = filter (λ i. not (has_come came i)) (range_with_len 0 sent)

-- among which letters, and in which order, a name looks: those that came, the last first, or those that wait
abbrev pub looked_at : Bool → ℕ → List ℕ → List ℕ
looked_at true sent came = reverse came
looked_at false sent came = waiting sent came

-- the letter that is named, where these numbers came, in order: the first that was sent, fits, and hasn't come yet; of
-- one that comes again, the last that fits and came
abbrev pub named : Name → List Letter → List ℕ → Option ℕ
named name letters came = find (fits_at name letters) (looked_at name.again (length letters) came)
