use Rattle.std.proofs.Common.{◌≡◌, ◌+◌, ap, subst, ◌∙◌, length, IfOk, None}
use Rattle.std.proofs.lemmas.Result.{on_ok_weaker}
use Rattle.ballots.specs.Rows.{at}
use Rattle.command_log.specs.Values.{outputs_of_values, values_from}
use Rattle.map_release.specs.Released.{released}
use Rattle.node.specs.Learned.{Learned, IsPart}
use Rattle.node.proofs.Knowing.{same_outputs, same_length}
use Rattle.node.proofs.knowledge.Knowledge.release.Goals as goal

pub returns-clause-released : goal.returns-clause-released
returns-clause-released c =
    let learned = c.self.inside.learner.learned in
    let log = c.apply.new.log in
    let part : IsPart log.learned learned = subst (IsPart log.learned) c.values.ensures c.in_ok-apply.ensures.part in
    let all : at learned (log.applied + 1) ≡ None = subst (λ rows. at rows (log.applied + 1) ≡ None) c.values.ensures c.in_ok-apply.ensures.all in
    let same = same_outputs log learned c.in_ok-apply.ensures.log c.self.invariant.rows part all in
    subst (λ (l : Learned). IfOk c.next.result (λ outputs. outputs.items ≡ released c.args.now l.cursor (outputs_of_values (values_from 1 l.tally.learned)))) c.self.view_is
    (subst (λ os. IfOk c.next.result (λ outputs. outputs.items ≡ released c.args.now c.self.inside.release os)) same c.next.ensures.released)

pub returns-clause-ok : goal.returns-clause-ok
returns-clause-ok c =
    let learned = c.self.inside.learner.learned in
    let log = c.apply.new.log in
    let part : IsPart log.learned learned = subst (IsPart log.learned) c.values.ensures c.in_ok-apply.ensures.part in
    let all : at learned (log.applied + 1) ≡ None = subst (λ rows. at rows (log.applied + 1) ≡ None) c.values.ensures c.in_ok-apply.ensures.all in
    let count = same_length log learned c.in_ok-apply.ensures.log c.self.invariant.rows part all in
    on_ok_weaker c.next.result
    (λ (is : c.next.new.self ≡ c.apply.new.log.applied). λ i. record { tally = ap (λ (l : Learned). l.tally) c.self.view_is i; cursor = (is ∙ count ∙ ap (λ (l : Learned). length (values_from 1 l.tally.learned)) c.self.view_is) i })
    c.next.ensures.cursor
