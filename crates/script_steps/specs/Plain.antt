-- The event that a step comes to, and the events of an entry.
use Rattle.std.specs.Prelude.{ℕ, ◌-◌, ◌^◌, Bool, not, List, [], ◌∷◌, filter, length, map, Option, Some, None}
use Rattle.std.specs.List.{list_any}
use Rattle.ballots.specs.declared.letters.Letter.{Letter}
use Rattle.world_events.specs.declared.event.Event.{Event}
use Rattle.world_events.specs.declared.event.Event.TheVariants as events
use Rattle.script_steps.specs.declared.step.Step.{Step}
use Rattle.script_steps.specs.declared.step.Step.TheVariants.{Plain, Deliver, DeliverThenCrash}
use Rattle.script_steps.specs.declared.name.Name.{Name}
use Rattle.script_steps.specs.declared.entry.Entry.{Entry}
use Rattle.script_steps.specs.declared.entry.Entry.TheVariants.{One, All}
use Rattle.script_steps.specs.Names.{fits_at, named, waiting}

-- the letter that was found, or a number that no letter has
abbrev pub or_no_letter : Option ℕ → ℕ
or_no_letter None = 2 ^ 63 - 1
or_no_letter (Some i) = i

-- the event that a step is, where these letters were sent, of which these numbers came, in order
abbrev pub plain : Step → List Letter → List ℕ → Event
plain (Plain event) letters came = event
plain (Deliver name) letters came = events.Deliver (or_no_letter (named name letters came))
plain (DeliverThenCrash name) letters came = events.DeliverThenCrash (or_no_letter (named name letters came))

-- ---- entries

-- the letter of this number, if it was sent, has all that one of these names
abbrev pub fits_any : List Name → List Letter → ℕ → Bool
fits_any except letters i = list_any (λ name. fits_at name letters i) except

-- the numbers of the letters that haven't come, in order, but for those that one of these names fits
abbrev pub waiting_but : List Name → List Letter → List ℕ → List ℕ
waiting_but except letters came = filter (λ i. not (fits_any except letters i)) (waiting (length letters) came)

-- how many rounds an entry has, and the events of one, where these letters were sent, of which these numbers came, as it
-- begins
abbrev pub rounds_of : Entry → ℕ
rounds_of (One step) = 1
rounds_of (All all) = all.rounds

abbrev pub round_of : Entry → List Letter → List ℕ → List Event
round_of (One step) letters came = plain step letters came ∷ []
round_of (All all) letters came = map events.Deliver (waiting_but all.except letters came)
