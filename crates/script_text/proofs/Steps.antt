-- Events as entries.
use Rattle.std.proofs.Common.{List, [], ◌∷◌, map, Option, Some, None}
use Rattle.std.specs.List.{AllZip}
use Rattle.toml.specs.Data.{Data}
use Rattle.world_events.specs.declared.event.Event.{Event}
use Rattle.script_steps.specs.declared.step.Step.TheVariants.{Plain}
use Rattle.script_steps.specs.declared.entry.Entry.{Entry}
use Rattle.script_steps.specs.declared.entry.Entry.TheVariants.{One}
use Rattle.script_text.specs.EntryTable.{MeansEntry}
use Rattle.script_text.specs.EventTable.{MeansEvent}
use Rattle.script_text.specs.Items.{AllMean}
use Rattle.script_text.specs.StepScript.{EventsAreSteps}

-- an event as an entry
abbrev plain : Event → Entry
plain event = One (Plain event)

zipped : (ds : List Data) (events : List Event) → AllZip MeansEvent ds events → AllZip MeansEntry ds (map plain events)
zipped [] [] all = tt
zipped [] (event ∷ events) all = absurd all
zipped (d ∷ ds) [] all = absurd all
zipped (d ∷ ds) (event ∷ events) all = (all.0, zipped ds events all.1)

mean : (items : Option (List Data)) (events : List Event) → AllMean MeansEvent items events → AllMean MeansEntry items (map plain events)
mean None events all = absurd all
mean (Some ds) events all = zipped ds events all

pub events_are_steps : EventsAreSteps
events_are_steps text count ids events (ms, parsed, table) =
    (ms, parsed, record { members = table.members; modems = table.modems; steps = mean _ events table.events })
