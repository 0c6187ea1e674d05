-- Events and letters in few words.
use Rattle.std.specs.Prelude.{ℕ, List, ◌++◌, codes, decimal}
use Rattle.ballots.specs.declared.letters.Note.{Note}
use Rattle.ballots.specs.declared.letters.Note.TheVariants.{Prepare, Promise, Accept, Voted, Higher, Known}
use Rattle.world_events.specs.declared.event.Event.{Event}
use Rattle.world_events.specs.declared.event.Event.TheVariants.{Lead, Offer, Tell, Deliver, DeliverThenCrash, Crash}
use Rattle.world_events.specs.declared.event.Event.TheVariants.{Restart, Release, Hear, Want, Tick}
use Rattle.command_words.specs.Commands.{value_words}

-- what is offered, by the command that the value spells
abbrev pub offer_words : List ℕ → List ℕ
offer_words value = codes "offer " ++ value_words value

-- what happens
abbrev pub event_words : Event → List ℕ
event_words (Lead k) = codes "lead"
event_words (Offer k value) = offer_words value
event_words (Tell k to place) = codes "tell node " ++ (decimal to ++ (codes " from p" ++ decimal place))
event_words (Deliver i) = codes "deliver " ++ decimal i
event_words (DeliverThenCrash i) = codes "deliver " ++ (decimal i ++ codes ", crash")
event_words (Crash k) = codes "crash"
event_words (Restart k) = codes "restart"
event_words (Release k now) = codes "release, now " ++ decimal now
event_words (Hear m i near) = codes "hear output " ++ (decimal i ++ (codes " near " ++ decimal near))
event_words (Want m ch sid n) = codes "want " ++ (decimal n ++ (codes " for sid " ++ decimal sid))
event_words (Tick m ch slot random) = codes "tick " ++ decimal slot

-- what a letter says
abbrev pub note_words : Note → List ℕ
note_words (Prepare ballot place) = codes "Prepare " ++ decimal ballot
note_words (Promise ballot place votes) = codes "Promise " ++ decimal ballot
note_words (Accept ballot place value) = codes "Accept " ++ (decimal ballot ++ (codes " p" ++ decimal place))
note_words (Voted ballot place value) = codes "Voted " ++ (decimal ballot ++ (codes " p" ++ decimal place))
note_words (Higher ballot) = codes "Higher " ++ decimal ballot
note_words (Known place value) = codes "Known p" ++ decimal place
