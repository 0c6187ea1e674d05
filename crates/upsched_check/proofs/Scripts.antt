-- Texts that are scripts without commands.
use Rattle.std.proofs.Common.{◌≡◌, ℕ, List, [], ◌∷◌, Option, None, Some, IfSome, refl, sym, subst, ◌∙◌, codes}
use Rattle.std.proofs.lemmas.Option.{same_Some}
use Rattle.toml.specs.Data.{Data}
use Rattle.script_text.specs.CommandTable.{SpellsCommand}
use Rattle.script_text.specs.Items.{items_at, AllMean}
use Rattle.grant_machine.specs.declared.command.Command.{Command}
use Rattle.script_text.specs.Plan.{IsPlan, NoPlan}
use Rattle.upsched_check.specs.Plans.{IsScriptAlone, IsKnownScript}

none_mean : (items : Option (List Data)) (cs : List Command) → AllMean SpellsCommand items [] → AllMean SpellsCommand items cs → cs ≡ []
none_mean None cs empty means = absurd empty
none_mean (Some []) [] empty means = refl
none_mean (Some []) (c ∷ cs) empty means = absurd means
none_mean (Some (d ∷ ds)) cs empty means = absurd empty

-- a plan without commands is no other plan
pub only_plan : (text : List ℕ) (cs : List Command) → IsPlan text [] → IsPlan text cs → cs ≡ []
only_plan text cs empty plan =
    let (ms, parsed, none) = empty in
    let (ms', parsed', means) = plan in
    let same : ms ≡ ms' = same_Some ms ms' (sym parsed ∙ parsed') in
    none_mean (items_at ms' (codes "command")) cs (rw same at none) means

-- where what was read is no script without commands, the known text isn't either
pub not_alone : (known : Option (List ℕ)) (text read : List ℕ) → IfSome known (λ bytes. text ≡ bytes) → read ≡ text → ¬ IsScriptAlone read → IfSome known (λ bytes. ¬ IsScriptAlone bytes)
not_alone None text read same whole other = tt
not_alone (Some bytes) text read same whole other = let is : read ≡ bytes = whole ∙ same in λ alone. other (subst IsScriptAlone (sym is) alone)

-- where what was read is a plan of commands, the known text is
pub plan_known : (known : Option (List ℕ)) (text read : List ℕ) (cs : List Command) → IfSome known (λ bytes. text ≡ bytes) → read ≡ text → IsPlan read cs → IfSome known (λ bytes. IsPlan bytes cs)
plan_known None text read cs same whole plan = tt
plan_known (Some bytes) text read cs same whole plan = let is : read ≡ bytes = whole ∙ same in rw is at plan

-- a text that is known to be no plan, or a script without commands, isn't read as a plan
pub no_plan_read : (known : Option (List ℕ)) (cs : List Command) → NoPlan known → IfSome known (λ text. IsPlan text cs) → ⊥
no_plan_read None cs none read = none
no_plan_read (Some text) cs none read = none cs read

pub no_script_read : (known : Option (List ℕ)) → IsKnownScript known → IfSome known (λ text. ¬ IsScriptAlone text) → ⊥
no_script_read None script read = script
no_script_read (Some text) script read = read script
