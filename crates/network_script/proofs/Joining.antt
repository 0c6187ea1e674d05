-- A run may be cut in two, whatever its steps are: what is reached from where the first part ended is reached by the whole.
use Rattle.std.proofs.Common.{◌≡◌, ◌<◌, ◌+◌, ℕ, List, [], ◌∷◌, ◌++◌, refl, subst, length, take, get_or}
use Rattle.std.proofs.lemmas.List.{take_more}
use Rattle.world_events.specs.declared.event.Event.{Event}
use Rattle.seats.specs.declared.answer.Answer.{Answer}
use Rattle.network_script.specs.Along.{Along}
use Rattle.network_script.specs.Next.{Next}
use Rattle.network_script.specs.Headline.{RunsJoin}

pub along_joins : {S : Type 0} (Step : S → Event → Answer → S → Type 0) (s mid last : S) (first second : List Event) (told more : List Answer) → Along Step s first told mid → Along Step mid second more last → Along Step s (first ++ second) (told ++ more) last
along_joins {S} Step s mid last [] second [] more start rest = subst (λ (x : S). Along Step x second more last) start rest
along_joins {S} Step s mid last (event ∷ first) second (answer ∷ told) more start rest = (start.0, start.1, along_joins Step start.0 mid last first second told more start.2 rest)
along_joins {S} Step s mid last first second told more start rest = absurd start

pub runs_join : RunsJoin
runs_join members = along_joins (Next members)

-- a run goes on by the event at an index
pub along_on : {S : Type 0} (Step : S → Event → Answer → S → Type 0) (s mid last : S) (events : List Event) (i : ℕ) (event : Event) (answers : List Answer) (answer : Answer)
    → i < length events → event ≡ get_or events i event → Along Step s (take i events) answers mid → Step mid event answer last → Along Step s (take (i + 1) events) (answers ++ answer ∷ []) last
along_on {S} Step s mid last events i event answers answer lt is goes next =
    rw (take_more events i event lt) (along_joins Step s mid last (take i events) (get_or events i event ∷ []) answers (answer ∷ []) goes (last, subst (λ (e : Event). Step mid e answer last) is next, refl))
