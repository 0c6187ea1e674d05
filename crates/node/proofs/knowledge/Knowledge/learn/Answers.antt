use Rattle.std.proofs.Common.{◌≡◌, ℕ, List, None, ap, subst, sym, ◌∙◌, rules}
use Rattle.ballots.specs.Rows.{at, put}
use Rattle.command_log.specs.Values.{Rows}
use Rattle.command_log.specs.View.{AreRows}
use Rattle.learner.specs.Tally.{Tally, learn}
use Rattle.node.specs.Learned.{AreLearned, Learned}
use Rattle.node.proofs.Knowing.{are_learned, learn_keeps}
use Rattle.node.proofs.knowledge.Knowledge.learn.Goals as goal

pub prefix_len-self-inside-requires : goal.prefix_len-self-inside-requires
prefix_len-self-inside-requires g c =
    let k = c.self.inside in
    let rows : Rows = k.learner.learned in
    let p : ℕ = c.number.result in
    let v : List ℕ = c.into_bytes-kept.result in
    let none : at rows p ≡ None = ap (λ (l : Learned). at l.tally.learned p) c.self.view_is ∙ ap (at c.args.self.now.tally.learned) c.number.ensures.same ∙ c.requires in
    let learns : c.learn_after.new.self ≡ learn k.learner p v = search rules in
    let is : c.learn_after.new.self.learned ≡ put rows p v = ap (λ (t : Tally). t.learned) learns in
    let later = learn_keeps k.learner p v c.number.ensures.fits.0 c.number.ensures.fits.1 c.self.invariant.rows rows (λ q w there. there) none c.learn_after.new.self.learned is in
    record {
      rows = subst (AreRows 1) (sym c.values.ensures) later.0;
      known = subst (λ (r : Rows). AreLearned r k.prefix) (sym c.values.ensures) (are_learned rows c.learn_after.new.self.learned k.prefix later.1 c.self.invariant.told);
    }

pub invariant_of-self-2 : goal.invariant_of-self-2
invariant_of-self-2 g c =
    let k = c.self.inside in
    let rows : Rows = k.learner.learned in
    let p : ℕ = c.number.result in
    let v : List ℕ = c.into_bytes-kept.result in
    let none : at rows p ≡ None = ap (λ (l : Learned). at l.tally.learned p) c.self.view_is ∙ ap (at c.args.self.now.tally.learned) c.number.ensures.same ∙ c.requires in
    let learns : c.learn_after.new.self ≡ learn k.learner p v = search rules in
    let is : c.learn_after.new.self.learned ≡ put rows p v = ap (λ (t : Tally). t.learned) learns in
    let keeps = learn_keeps k.learner p v c.number.ensures.fits.0 c.number.ensures.fits.1 c.self.invariant.rows k.log.learned c.self.invariant.part none c.learn_after.new.self.learned is in
    record { rows = keeps.0; part = keeps.1; told = subst (λ (r : Rows). AreLearned r c.prefix_len-self-inside.result) c.values.ensures c.prefix_len-self-inside.ensures.learned }
