-- One more command, and longer lists of commands.
use Rattle.std.proofs.Common.{◌≡◌, ℕ, zero, suc, List, [], ◌∷◌, ◌++◌, length, take, map, refl, ap, ◌∙◌, sym}
use Rattle.std.proofs.lemmas.List.{map-append, length-map, take-map}
use Rattle.flow_state.specs.Rows.{Rows}
use Rattle.grant_machine.specs.declared.command.Command.{Command}
use Rattle.grant_machine.specs.declared.output.Output.{Output}
use Rattle.grant_machine.specs.Steps.{step}
use Rattle.grant_machine.specs.Runs.{outputs_from, outputs_of, rows_from, rows_after}
use Rattle.grant_machine.proofs.Callers.{one_each, rows_append}
pub use Rattle.grant_machine.proofs.Callers.{outputs_append}
use Rattle.command_log.specs.Reading.{command_of}
use Rattle.command_log.specs.Values.{outputs_of_values}

-- a value has one output
pub values_length : (values : List (List ℕ)) → length (outputs_of_values values) ≡ length values
values_length values = one_each [] (map command_of values) ∙ length-map values command_of

-- the outputs of a longer list begin with those of its beginning
pub outputs_begin : (values more : List (List ℕ)) → (rest : List Output) × (outputs_of_values (values ++ more) ≡ outputs_of_values values ++ rest)
outputs_begin values more = (
  outputs_from (rows_after (map command_of values)) (map command_of more),
  ap outputs_of (map-append command_of values more) ∙ outputs_append [] (map command_of values) (map command_of more),
)

-- one more value
pub outputs_push : (values : List (List ℕ)) (v : List ℕ)
    → outputs_of_values (values ++ v ∷ []) ≡ outputs_of_values values ++ (step (rows_after (map command_of values)) (command_of v)).output ∷ []
outputs_push values v = ap outputs_of (map-append command_of values (v ∷ [])) ∙ outputs_append [] (map command_of values) (command_of v ∷ [])

pub rows_push : (values : List (List ℕ)) (v : List ℕ)
    → rows_after (map command_of (values ++ v ∷ [])) ≡ (step (rows_after (map command_of values)) (command_of v)).rows
rows_push values v = ap rows_after (map-append command_of values (v ∷ [])) ∙ rows_append [] (map command_of values) (command_of v ∷ [])

outputs_take : (rows : Rows) (n : ℕ) (cs : List Command) → outputs_from rows (take n cs) ≡ take n (outputs_from rows cs)
outputs_take rows zero cs = refl
outputs_take rows (suc n) [] = refl
outputs_take rows (suc n) (c ∷ cs) = ap (λ (os : List Output). (step rows c).output ∷ os) (outputs_take (step rows c).rows n cs)

-- the outputs of the first values are the first outputs
pub outputs_first : (n : ℕ) (values : List (List ℕ)) → outputs_of_values (take n values) ≡ take n (outputs_of_values values)
outputs_first n values = ap outputs_of (sym (take-map command_of n values)) ∙ outputs_take [] n (map command_of values)
