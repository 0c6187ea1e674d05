use Rattle.std.proofs.Common.{◌≡◌, ◌≤◌, ◌∷◌, [], ◌++◌, true, false, cond, List, Some, None, length, take, slice_get}
use Rattle.std.proofs.Common.{Vec, Global, ◌+◌, sym, ap, ◌∙◌, rules, arith}
use Rattle.std.specs.Option.{option_copied}
use Rattle.std.proofs.lemmas.List.{append-nil}
use Rattle.command_log.proofs.Callers.{is_last}
use Rattle.map_release.specs.declared.numbered.Numbered.{Numbered}
use Rattle.map_release.specs.Released.{applied_outputs, has_ended, released}
use Rattle.map_release.proofs.Steps.{applied_length, is_released, looked_up, released_all, released_first}
use Rattle.map_release.proofs.Steps.{released_next}
use Rattle.map_release.proofs.release.outputs_behind.Goals as goal
use Rattle.map_release.proofs.release.outputs_behind.Goals.{in-Some+then-not-has_ended+in_ok-output+in_ok-map_err}
use Rattle.map_release.proofs.release.outputs_behind.Goals.{in-Some+else-not-has_ended, in_default}

pub loop-passed-init : goal.loop-passed-init
loop-passed-init c = c.new-outputs.ensures.items ∙ sym (released_first c.args.now c.args.cursor (applied_outputs c.args.log.now))

pub loop-passed-preserved : goal.loop-passed-preserved
loop-passed-preserved c =
    let log = c.args.log.now in
    let passed = c.loop-passed.passed in
    let looked = looked_up log passed (option_copied c.output.result) c.output.ensures in
    elim c.match-output.branch [
      | in-Some+then-not-has_ended+in_ok-output+in_ok-map_err w ↦
          let some : slice_get (applied_outputs log) passed ≡ Some w.in-Some.output.now = looked ∙ ap option_copied w.in-Some.is in
          let next = released_next c.args.now c.args.cursor passed (applied_outputs log) w.in-Some.output.now (omega arith) some in
          let ended : has_ended c.args.now w.in-Some.output.now ≡ false = search rules in
          let copied : w.in_ok-output.output ≡ w.in-Some.output.now = w.in_ok-output.ensures in
          let pushed : w.push.new.self.items ≡ c.loop-passed.outputs.items ++ record { place = passed + 1; output = w.in_ok-output.output } ∷ [] = search rules in
          ap (λ (v : Vec Numbered Global). v.items) w.outputs-is ∙ pushed
          ∙ (λ i. c.loop-passed.invariant i ++ record { place = passed + 1; output = copied i } ∷ [])
          ∙ sym (next ∙ ap (λ b. released c.args.now c.args.cursor (take passed (applied_outputs log)) ++ cond {A = List Numbered} b [] (record { place = passed + 1; output = w.in-Some.output.now } ∷ [])) ended)
      | in-Some+else-not-has_ended w ↦
          let some : slice_get (applied_outputs log) passed ≡ Some w.in-Some.output.now = looked ∙ ap option_copied w.in-Some.is in
          let next = released_next c.args.now c.args.cursor passed (applied_outputs log) w.in-Some.output.now (omega arith) some in
          let ended : has_ended c.args.now w.in-Some.output.now ≡ true = search rules in
          ap (λ (v : Vec Numbered Global). v.items) w.outputs-is ∙ c.loop-passed.invariant
          ∙ sym (next ∙ ap (λ b. released c.args.now c.args.cursor (take passed (applied_outputs log)) ++ cond {A = List Numbered} b [] (record { place = passed + 1; output = w.in-Some.output.now } ∷ [])) ended ∙ append-nil (released c.args.now c.args.cursor (take passed (applied_outputs log))))
      | in_default w ↦
          let none : slice_get (applied_outputs log) passed ≡ None = looked ∙ ap option_copied w.in_default.is in
          let last : length (applied_outputs log) ≤ passed = is_last passed (applied_outputs log) none in
          absurd (omega (arith, applied_length log c.prefix_len-passed-end.ensures.kept))
    ]

pub returns-clause-released : goal.returns-clause-released
returns-clause-released c = c.loop-passed.invariant ∙ released_all c.args.now c.args.cursor c.loop-passed.passed c.args.log.now c.prefix_len-passed-end.ensures.kept (omega arith)

pub returns-in_err-output-clause-nothing : goal.returns-in_err-output-clause-nothing
returns-in_err-output-clause-nothing c =
    let log = c.args.log.now in
    let passed = c.loop-passed.passed in
    let some : slice_get (applied_outputs log) passed ≡ Some c.in-Some.output.now = looked_up log passed (option_copied c.output.result) c.output.ensures ∙ ap option_copied c.in-Some.is in
    let runs : has_ended c.args.now c.in-Some.output.now ≡ false = search rules in
    λ none. absurd (is_released c.args.now 1 c.args.cursor passed (applied_outputs log) c.in-Some.output.now (omega arith) some runs none)

pub returns-in_err-map_err-clause-nothing : goal.returns-in_err-map_err-clause-nothing
returns-in_err-map_err-clause-nothing c =
    let log = c.args.log.now in
    let passed = c.loop-passed.passed in
    let some : slice_get (applied_outputs log) passed ≡ Some c.in-Some.output.now = looked_up log passed (option_copied c.output.result) c.output.ensures ∙ ap option_copied c.in-Some.is in
    let runs : has_ended c.args.now c.in-Some.output.now ≡ false = search rules in
    λ none. absurd (is_released c.args.now 1 c.args.cursor passed (applied_outputs log) c.in-Some.output.now (omega arith) some runs none)
