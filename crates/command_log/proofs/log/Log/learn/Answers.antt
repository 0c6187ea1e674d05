use Rattle.std.proofs.Common.{◌≡◌, ℕ, true, List, map, Some, None, ap, ◌∙◌, refl, sym, subst, rules, arith}
use Rattle.std.specs.Option.{option_copied}
use Rattle.std.specs.Ordering.{nat_cmp}
use Rattle.std.specs.BTreeMap.{insert_entry}
use Rattle.std.proofs.lemmas.Slice.Eq.{bytes_eq-Decides}
use Rattle.grant_machine.specs.Runs.{rows_after}
use Rattle.command_log.specs.Reading.{command_of}
use Rattle.command_log.specs.Values.{outputs_of_values}
use Rattle.command_log.specs.View.{LogView, value_at, with_learned}
use Rattle.command_log.proofs.Applied.{log_put, log_same, is_a_place}
use Rattle.command_log.proofs.log.Log.learn.Goals as goal

pub returns-then-eq-clause-ok : goal.returns-then-eq-clause-ok
returns-then-eq-clause-ok c =
    let rows = c.self.inside.learned.entries in
    let known = c.in-Some.known.now in
    let some : value_at rows c.args.place ≡ Some known = sym c.get.ensures ∙ ap option_copied c.in-Some.is in
    let same : known ≡ c.args.value.now = sym c.as_slice.ensures ∙ (bytes_eq-Decides c.as_slice.result.now c.args.value.now).0 (sym c.eq.ensures ∙ c.if-eq.true) in
    let at_place : value_at rows c.args.place ≡ Some c.args.value.now = some ∙ ap (λ (v : List ℕ). Some v) same in
    let seen : value_at c.args.self.now.learned c.args.place ≡ Some c.args.value.now = subst (λ (v : LogView). value_at v.learned c.args.place ≡ Some c.args.value.now) c.self.view_is at_place in (
      (is_a_place c.args.place (omega arith) (omega arith), λ other is. cc),
      subst (λ (v : LogView). v ≡ with_learned v c.args.place c.args.value.now) c.self.view_is (log_same record { learned = rows; applied = c.self.inside.outputs.len } c.args.place c.args.value.now c.self.invariant.log.rows at_place),
    )

pub returns-in-Some-clause-err : goal.returns-in-Some-clause-err
returns-in-Some-clause-err c =
    let rows = c.self.inside.learned.entries in
    let known = c.in-Some.known.now in
    let some : value_at rows c.args.place ≡ Some known = sym c.get.ensures ∙ ap option_copied c.in-Some.is in
    let seen : value_at c.args.self.now.learned c.args.place ≡ Some known = subst (λ (v : LogView). value_at v.learned c.args.place ≡ Some known) c.self.view_is some in
    let other : known ≡ c.args.value.now → ⊥ = λ same. let equal : c.eq.result ≡ true = c.eq.ensures ∙ (bytes_eq-Decides c.as_slice.result.now c.args.value.now).1 (c.as_slice.ensures ∙ same) in absurd (cc) in
    ((is_a_place c.args.place (omega arith) (omega arith), (known, seen, other)), refl)

pub invariant_of-self-2 : goal.invariant_of-self-2
invariant_of-self-2 c =
    let rows = c.self.inside.learned.entries in
    let n = c.self.inside.outputs.len in
    let none : value_at rows c.args.place ≡ None = sym c.get.ensures ∙ ap option_copied c.in_default.is in
    let value : c.in_ok-value.value ≡ c.args.value.now = search rules in
    let put : c.insert.new.self.entries ≡ insert_entry nat_cmp rows c.args.place c.in_ok-value.value = search rules in
    let kept = log_put rows c.insert.new.self.entries n c.args.place c.in_ok-value.value c.self.invariant.log (omega arith) (omega arith) none put in
    record {
      log = kept.0;
      outputs = c.self.invariant.outputs ∙ ap outputs_of_values (sym kept.1);
      machine = c.self.invariant.machine ∙ ap (λ (vs : List (List ℕ)). rows_after (map command_of vs)) (sym kept.1);
    }
