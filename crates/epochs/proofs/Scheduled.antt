-- One value more, and what then waits.
use Rattle.std.proofs.Common.{◌≡◌, ◌∙◌, ℕ, ◌+◌, ◌≤◌, List, [], ◌∷◌, ◌++◌, length, map, drop, refl, sym, ap, arith}
use Rattle.std.proofs.Common.{length-append}
use Rattle.std.proofs.Math.ListN.{drop_of_length-le}
use Rattle.std.proofs.lemmas.List.{map-append}
use Rattle.grant_machine.specs.declared.output.Output.{Output}
use Rattle.grant_machine.specs.Runs.{outputs_of, rows_after}
use Rattle.grant_machine.specs.Steps.{step}
use Rattle.grant_machine.proofs.Callers.{rows_push}
use Rattle.command_log.specs.Reading.{command_of}
use Rattle.command_log.specs.Values.{outputs_of_values}
use Rattle.command_log.proofs.Callers.{outputs_append, values_length}
use Rattle.map_release.specs.Released.{numbered}
use Rattle.map_release.proofs.Callers.{drop_front, numbered_length, numbered_push}
use Rattle.epochs.specs.Scheduling.{AppliesNext, GoesOnFromTables, HandsOutRest, StartsEmpty}

pub starts_empty : StartsEmpty
starts_empty = refl

-- the output of one value more
abbrev next_output : List (List ℕ) → List ℕ → Output
next_output values value = (step (rows_after (map command_of values)) (command_of value)).output

outputs_next : (values : List (List ℕ)) (value : List ℕ) → outputs_of_values (values ++ value ∷ []) ≡ outputs_of_values values ++ next_output values value ∷ []
outputs_next values value =
    ap outputs_of (map-append command_of values (value ∷ [])) ∙ outputs_append [] (map command_of values) (command_of value ∷ [])

rows_next : (values : List (List ℕ)) (value : List ℕ) → rows_after (map command_of (values ++ value ∷ [])) ≡ (step (rows_after (map command_of values)) (command_of value)).rows
rows_next values value = ap rows_after (map-append command_of values (value ∷ [])) ∙ rows_push [] (map command_of values) (command_of value)

waiting_next : (values : List (List ℕ)) (value : List ℕ) (cursor : ℕ) → cursor ≤ length values
    → drop cursor (numbered 1 (outputs_of_values (values ++ value ∷ []))) ≡ drop cursor (numbered 1 (outputs_of_values values)) ++ record { place = length values + 1; output = next_output values value } ∷ []
waiting_next values value cursor le =
    let outs : List Output = outputs_of_values values in
    let o : Output = next_output values value in
    let as_many : length outs ≡ length values = values_length values in
    let place : 1 + length outs ≡ length values + 1 = omega (arith, as_many) in
    let within : cursor ≤ length (numbered 1 outs) = omega (arith, le, as_many, numbered_length 1 outs) in
    ap (λ (os : List Output). drop cursor (numbered 1 os)) (outputs_next values value)
    ∙ ap (drop cursor) (numbered_push 1 outs o)
    ∙ drop_front cursor (numbered 1 outs) (record { place = 1 + length outs; output = o } ∷ []) within
    ∙ ap (λ n. drop cursor (numbered 1 outs) ++ record { place = n; output = o } ∷ []) place

pub applies_next : AppliesNext
applies_next values value cursor le =
    let rows = sym (rows_next values value) in
    let applied : length values + 1 ≡ length (values ++ value ∷ []) = omega (arith, length-append values (value ∷ [])) in
    let waiting = sym (waiting_next values value cursor le) in
    λ i. record { rows = rows i; applied = applied i; waiting = waiting i }

pub hands_out_rest : HandsOutRest
hands_out_rest values cursor =
    let all : length (numbered 1 (outputs_of_values values)) ≤ length values = omega (arith, numbered_length 1 (outputs_of_values values), values_length values) in
    let none = sym (drop_of_length-le (numbered 1 (outputs_of_values values)) all) in
    λ i. record { rows = rows_after (map command_of values); applied = length values; waiting = none i }

pub goes_on_from_tables : GoesOnFromTables
goes_on_from_tables values = hands_out_rest values 0
