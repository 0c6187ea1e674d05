-- Faults of a part of a command.
use Rattle.std.specs.Prelude.{◌≡◌, ◌⊎◌, ℕ, List, Option, IfSome}
use Rattle.script_text.specs.declared.plan.PlanFault.{PlanFault}
use Rattle.script_text.specs.declared.script.ScriptFault.{ScriptFault}
use Rattle.script_text.specs.Plan.{IsPlanFault}
use Rattle.script_text.specs.StepScript.{IsStepFault}
use Rattle.upsched_ends.specs.declared.fault.Fault.{Fault}
use Rattle.upsched_ends.specs.declared.fault.Fault.TheVariants.{Memory, Output, Plan, Script}

-- what stops a print: want of memory, or an output that can't be written
abbrev pub StopsPrint : Fault → Type 0
StopsPrint fault = (fault ≡ Memory) ⊎ (fault ≡ Output)

-- the fault is why the text, where it is known, isn't read as a plan
abbrev pub TellsPlanFault : Option (List ℕ) → Fault → Type 0
TellsPlanFault text fault = (why : PlanFault) × (fault ≡ Plan why) × IfSome text (λ bytes. IsPlanFault bytes why)

-- the fault is why the text, where it is known, isn't read as a script
abbrev pub TellsStepFault : Option (List ℕ) → Fault → Type 0
TellsStepFault text fault = (why : ScriptFault) × (fault ≡ Script why) × IfSome text (λ bytes. IsStepFault bytes why)
