-- A run, whatever its steps are: of the written world, of what is seen of it, of counts.
use Rattle.std.specs.Prelude.{◌≡◌, List, [], ◌∷◌}
use Rattle.world_events.specs.declared.event.Event.{Event}
use Rattle.seats.specs.declared.answer.Answer.{Answer}

-- by steps of this kind, these events may be answered so, one after another
abbrev pub Along : {S : Type 0} → (S → Event → Answer → S → Type 0) → S → List Event → List Answer → S → Type 0
Along {S} Step s [] [] s' = s' ≡ s
Along {S} Step s (event ∷ events) (answer ∷ answers) s' = (mid : S) × Step s event answer mid × Along Step mid events answers s'
Along {S} Step s events answers s' = ⊥
