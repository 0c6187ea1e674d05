-- What is seen of a node at an event.
use Rattle.std.specs.Prelude.{ℕ, Bool, true, false, List, Option, Some, None, is_some, slice_get}
use Rattle.ballots.specs.declared.letters.Letter.{Letter}
use Rattle.ballots.specs.declared.letters.Note.{Note}
use Rattle.ballots.specs.declared.letters.Note.TheVariants.{Voted, Known}
use Rattle.ballots.specs.Rows.{at}
use Rattle.node.specs.View.{Standing}
use Rattle.node.specs.View.Standing.{Running}
use Rattle.world_events.specs.declared.event.Event.{Event}
use Rattle.world_events.specs.declared.event.Event.TheVariants.{Lead, Offer, Tell, Deliver, DeliverThenCrash, Crash}
use Rattle.world_events.specs.declared.event.Event.TheVariants.{Restart, Release, Hear, Want, Tick}
use Rattle.network_script.specs.World.{Written}
use Rattle.watched_runs.specs.Posts.{changed, post_at}
use Rattle.watched_runs.specs.declared.sight.Sight.{Sight}

-- the node to which a letter is
abbrev pub addressee : Option Letter → Option ℕ
addressee None = None
addressee (Some l) = Some l.to

-- the node that an event asks
abbrev pub asked_node : List Letter → Event → Option ℕ
asked_node letters (Lead k) = Some k
asked_node letters (Offer k value) = Some k
asked_node letters (Tell k to place) = Some k
asked_node letters (Deliver i) = addressee (slice_get letters i)
asked_node letters (DeliverThenCrash i) = addressee (slice_get letters i)
asked_node letters (Crash k) = Some k
asked_node letters (Restart k) = Some k
asked_node letters (Release k now) = Some k
asked_node letters (Hear m i near) = None
asked_node letters (Want m ch sid n) = None
asked_node letters (Tick m ch slot random) = None

-- the place at which a letter tells of a vote or of a value
abbrev pub place_told : Note → Option ℕ
place_told (Voted ballot place value) = Some place
place_told (Known place value) = Some place
place_told other = None

abbrev pub told_by : Option Letter → Option ℕ
told_by None = None
told_by (Some l) = place_told l.note

-- the place of which the letter tells that an event delivers
abbrev pub place_of : List Letter → Event → Option ℕ
place_of letters (Deliver i) = told_by (slice_get letters i)
place_of letters other = None

-- whether a node of the world has learned a place: one that is down knows nothing
abbrev pub has_learned : Option Standing → ℕ → Bool
has_learned (Some (Running view)) place = is_some (at view.tally.learned place)
has_learned other place = false

abbrev pub knows : Option ℕ → Option Standing → Bool
knows None s = false
knows (Some place) s = has_learned s place

-- a place, where it is learned now and wasn't before
abbrev pub newly : Option ℕ → (before after : Bool) → Option ℕ
newly place false true = place
newly place before after = None

-- what is seen of node k, told of a place, between one world and the next
abbrev pub sight_of : ℕ → Option ℕ → (w w' : Written) → Sight
sight_of k place w w' = record {
  node = k;
  post = changed (post_at (slice_get w.nodes k)) (post_at (slice_get w'.nodes k));
  learned = newly place (knows place (slice_get w.nodes k)) (knows place (slice_get w'.nodes k));
}

abbrev pub sight_if : Option ℕ → Option ℕ → (w w' : Written) → Option Sight
sight_if None place w w' = None
sight_if (Some k) place w w' = Some (sight_of k place w w')

-- what is seen of an event: of the node that it asks, and of the place of which its letter tells
abbrev pub sight : Event → (w w' : Written) → Option Sight
sight event w w' = sight_if (asked_node w.letters event) (place_of w.letters event) w w'
