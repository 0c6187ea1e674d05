use Rattle.std.proofs.Common.{◌≡◌, ◌++◌, ◌∷◌, [], ℕ, suc, ◌+◌, ◌<◌, ◌≤◌, List, map, take, Some, None, ap, ◌∙◌, length}
use Rattle.std.proofs.Common.{slice_get, refl, sym, subst, rules, arith}
use Rattle.std.specs.Option.{option_copied}
use Rattle.std.proofs.lemmas.Option.{slice_get_within}
use Rattle.grant_machine.specs.declared.output.Output.{Output}
use Rattle.grant_machine.specs.Steps.{step}
use Rattle.grant_machine.specs.Runs.{rows_after}
use Rattle.command_log.specs.Reading.{command_of}
use Rattle.command_log.specs.Values.{gapless, outputs_of_values}
use Rattle.command_log.specs.View.{LogView, IsLog}
use Rattle.command_log.proofs.Applied.{next_found, is_last, not_all, advanced, log_push}
use Rattle.command_log.proofs.log.Log.advance.Goals as goal

pub returns-in_default-clause-more : goal.returns-in_default-clause-more
returns-in_default-clause-more c =
    let rows = c.self.inside.learned.entries in
    let n = c.self.inside.outputs.len in
    let none : slice_get (gapless rows) n ≡ None = sym (next_found rows n c.prefix_len-next.result (option_copied c.get.result) c.self.invariant.log (c.prefix_len-next.ensures.len ∙ sym (ap (λ (v : LogView). v.applied) c.self.view_is)) c.get.ensures) ∙ ap option_copied c.in_default.is in
    let all : length (gapless rows) ≤ n = is_last n (gapless rows) none in
    let fewer : length (gapless c.args.self.now.learned) ≤ c.args.self.now.applied = subst (λ (v : LogView). length (gapless v.learned) ≤ v.applied) c.self.view_is all in
    (λ h. absurd (cc (h)), λ h. absurd (omega arith))

pub invariant_of-self-2 : goal.invariant_of-self-2
invariant_of-self-2 c =
    let rows = c.self.inside.learned.entries in
    let n = c.self.inside.outputs.len in
    let v = c.in-Some.value.now in
    let some : slice_get (gapless rows) n ≡ Some v = sym (next_found rows n c.prefix_len-next.result (option_copied c.get.result) c.self.invariant.log (c.prefix_len-next.ensures.len ∙ sym (ap (λ (v : LogView). v.applied) c.self.view_is)) c.get.ensures) ∙ ap option_copied c.in-Some.is in
    let command : c.read_command-command.result.0 ≡ command_of v = c.read_command-command.ensures.value ∙ ap command_of c.as_slice.ensures in
    let pushed : c.push.new.self.items ≡ c.reserve.new.self.items ++ c.in_ok-output.output ∷ [] = search rules in
    let items : c.push.new.self.items ≡ c.self.inside.outputs.items ++ c.in_ok-output.output ∷ [] = pushed ∙ ap (λ (os : List Output). os ++ c.in_ok-output.output ∷ []) c.reserve.ensures.items in
    let one_more : c.push.new.self.len ≡ c.reserve.new.self.len + 1 = search rules in
    let len : c.push.new.self.len ≡ suc n = omega (arith, one_more, c.reserve.ensures.len) in
    let output : c.in_ok-output.output ≡ (step c.self.inside.machine (command_of v)).output = c.in_ok-output.ensures.output ∙ ap (λ d. (step c.self.inside.machine d).output) command in
    let machine : c.apply.new.self ≡ (step c.self.inside.machine (command_of v)).rows = c.in_ok-output.ensures.rows ∙ ap (λ d. (step c.self.inside.machine d).rows) command in
    let both = advanced (gapless rows) n v c.self.inside.outputs.items c.self.inside.machine c.apply.new.self c.in_ok-output.output c.self.invariant.outputs c.self.invariant.machine some output machine in
    record {
      log = subst (λ (k : ℕ). IsLog record { learned = rows; applied = k }) (sym len) (log_push rows n v c.self.invariant.log some);
      outputs = items ∙ both.0 ∙ ap (λ (k : ℕ). outputs_of_values (take k (gapless rows))) (sym len);
      machine = both.1 ∙ ap (λ (k : ℕ). rows_after (map command_of (take k (gapless rows)))) (sym len);
    }

pub returns-clause-more : goal.returns-clause-more
returns-clause-more c =
    let rows = c.self.inside.learned.entries in
    let n = c.self.inside.outputs.len in
    let v = c.in-Some.value.now in
    let some : slice_get (gapless rows) n ≡ Some v = sym (next_found rows n c.prefix_len-next.result (option_copied c.get.result) c.self.invariant.log (c.prefix_len-next.ensures.len ∙ sym (ap (λ (v : LogView). v.applied) c.self.view_is)) c.get.ensures) ∙ ap option_copied c.in-Some.is in
    let within : n < length (gapless rows) = slice_get_within (gapless rows) n v some in
    let more : c.args.self.now.applied < length (gapless c.args.self.now.learned) = subst (λ (v : LogView). v.applied < length (gapless v.learned)) c.self.view_is within in
    (λ _. more, λ _. search rules)

pub returns-in_default-clause-no_more : goal.returns-in_default-clause-no_more
returns-in_default-clause-no_more c = λ all. refl

pub returns-in_err-reserve-clause-no_more : goal.returns-in_err-reserve-clause-no_more
returns-in_err-reserve-clause-no_more c =
    let rows = c.self.inside.learned.entries in
    let n = c.self.inside.outputs.len in
    let some : slice_get (gapless rows) n ≡ Some c.in-Some.value.now = sym (next_found rows n c.prefix_len-next.result (option_copied c.get.result) c.self.invariant.log (c.prefix_len-next.ensures.len ∙ sym (ap (λ (v : LogView). v.applied) c.self.view_is)) c.get.ensures) ∙ ap option_copied c.in-Some.is in
    λ all. absurd (not_all rows n c.in-Some.value.now c.args.self.now some c.self.view_is all)

pub returns-in_err-output-clause-no_more : goal.returns-in_err-output-clause-no_more
returns-in_err-output-clause-no_more c =
    let rows = c.self.inside.learned.entries in
    let n = c.self.inside.outputs.len in
    let some : slice_get (gapless rows) n ≡ Some c.in-Some.value.now = sym (next_found rows n c.prefix_len-next.result (option_copied c.get.result) c.self.invariant.log (c.prefix_len-next.ensures.len ∙ sym (ap (λ (v : LogView). v.applied) c.self.view_is)) c.get.ensures) ∙ ap option_copied c.in-Some.is in
    λ all. absurd (not_all rows n c.in-Some.value.now c.args.self.now some c.self.view_is all)

pub returns-in_err-map_err-clause-no_more : goal.returns-in_err-map_err-clause-no_more
returns-in_err-map_err-clause-no_more c =
    let rows = c.self.inside.learned.entries in
    let n = c.self.inside.outputs.len in
    let some : slice_get (gapless rows) n ≡ Some c.in-Some.value.now = sym (next_found rows n c.prefix_len-next.result (option_copied c.get.result) c.self.invariant.log (c.prefix_len-next.ensures.len ∙ sym (ap (λ (v : LogView). v.applied) c.self.view_is)) c.get.ensures) ∙ ap option_copied c.in-Some.is in
    λ all. absurd (not_all rows n c.in-Some.value.now c.args.self.now some c.self.view_is all)

pub returns-clause-no_more : goal.returns-clause-no_more
returns-clause-no_more c =
    let rows = c.self.inside.learned.entries in
    let n = c.self.inside.outputs.len in
    let some : slice_get (gapless rows) n ≡ Some c.in-Some.value.now = sym (next_found rows n c.prefix_len-next.result (option_copied c.get.result) c.self.invariant.log (c.prefix_len-next.ensures.len ∙ sym (ap (λ (v : LogView). v.applied) c.self.view_is)) c.get.ensures) ∙ ap option_copied c.in-Some.is in
    λ all. absurd (not_all rows n c.in-Some.value.now c.args.self.now some c.self.view_is all)
