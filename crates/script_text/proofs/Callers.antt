-- What crates above cite of arrays, and of texts that are plans or scripts, or none.
use Rattle.std.proofs.Common.{◌≡◌, ℕ, List, [], ◌∷◌, Option, None, Some, IfSome, refl, ◌∙◌}
use Rattle.toml.specs.Data.{Data}
use Rattle.toml.specs.View.{items_of}
use Rattle.ballots.specs.declared.members.Members.{Members}
use Rattle.world_events.specs.declared.event.Event.{Event}
use Rattle.grant_machine.specs.declared.command.Command.{Command}
use Rattle.script_text.specs.Items.{list_of}
use Rattle.script_text.specs.Plan.{IsPlan, NoPlan}
use Rattle.script_text.specs.Script.{IsScript, NoScript}
use Rattle.script_text.specs.StepScript.{IsStepScript, NoSteps}
use Rattle.script_steps.specs.declared.entry.Entry.{Entry}
pub use Rattle.script_text.proofs.Pairs.{two_items}

-- the items that a list makes are that list
pub list_of-items_of : (ds : List Data) → list_of (items_of ds) ≡ ds
list_of-items_of [] = refl
list_of-items_of (d ∷ ds) = rw (list_of-items_of ds) refl

-- a text that is read as a plan is known to be one, where it is known
pub plan_known : (known : Option (List ℕ)) (text read : List ℕ) (cs : List Command) → IfSome known (λ bytes. text ≡ bytes) → read ≡ text → IsPlan read cs → IfSome known (λ bytes. IsPlan bytes cs)
plan_known None text read cs same whole plan = tt
plan_known (Some bytes) text read cs same whole plan = rw (whole ∙ same) at plan

-- a text that is known to be no plan is read as none
pub no_plan_read : (known : Option (List ℕ)) (cs : List Command) → NoPlan known → IfSome known (λ text. IsPlan text cs) → ⊥
no_plan_read None cs none read = none
no_plan_read (Some text) cs none read = none cs read

-- a text that is read as a script is known to be one, where it is known
pub script_known : (known : Option (List ℕ)) (text read : List ℕ) (count : Members) (ids : List ℕ) (events : List Event) → IfSome known (λ bytes. text ≡ bytes) → read ≡ text → IsScript read count ids events
    → IfSome known (λ bytes. IsScript bytes count ids events)
script_known None text read count ids events same whole script = tt
script_known (Some bytes) text read count ids events same whole script = rw (whole ∙ same) at script

-- likewise of one whose deliveries may name their letters
pub steps_known : (known : Option (List ℕ)) (text read : List ℕ) (count : Members) (ids : List ℕ) (entries : List Entry) → IfSome known (λ bytes. text ≡ bytes) → read ≡ text → IsStepScript read count ids entries
    → IfSome known (λ bytes. IsStepScript bytes count ids entries)
steps_known None text read count ids entries same whole script = tt
steps_known (Some bytes) text read count ids entries same whole script = rw (whole ∙ same) at script

pub no_steps_read : (known : Option (List ℕ)) (count : Members) (ids : List ℕ) (entries : List Entry) → NoSteps known → IfSome known (λ text. IsStepScript text count ids entries) → ⊥
no_steps_read None count ids entries none read = none
no_steps_read (Some text) count ids entries none read = none count ids entries read

-- a text that is known to be no script is read as none
pub no_script_read : (known : Option (List ℕ)) (count : Members) (ids : List ℕ) (events : List Event) → NoScript known → IfSome known (λ text. IsScript text count ids events) → ⊥
no_script_read None count ids events none read = none
no_script_read (Some text) count ids events none read = none count ids events read
