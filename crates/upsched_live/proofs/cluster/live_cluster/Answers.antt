use Rattle.std.proofs.Common.{◌≡◌, ◌∙◌, ℕ, All, map}
use Rattle.std.proofs.lemmas.Result.{IfOk-weaker}
use Rattle.upsched_live.specs.declared.driver.LiveCarrier.{LiveCarrier}
use Rattle.node_worker.specs.KeptView.{KeptView}
use Rattle.upsched_live.proofs.Alike.{all_alike, all_told_alike}
use Rattle.upsched_live.proofs.cluster.live_cluster.Goals as goal

pub returns-clause-given : goal.returns-clause-given
returns-clause-given g c =
    let given : LiveCarrier → ℕ = λ x. x.given in
    let carriers = c.in_ok-carriers.carriers.items in
    IfOk-weaker c.run_cluster.result (λ back. map given back.1.items ≡ map given carriers) (λ back. All (λ x. given x ≡ c.args.turns) back.1.items)
    (λ back same i d lt. all_alike given c.from.result back.1.items carriers same c.in_ok-carriers.ensures.given i d lt ∙ c.from.ensures) c.run_cluster.ensures.given

pub returns-clause-asked : goal.returns-clause-asked
returns-clause-asked g c =
    let left : LiveCarrier → ℕ = λ x. x.turns in
    let asked : KeptView → ℕ = λ k. k.turns in
    let carriers = c.in_ok-carriers.carriers.items in
    IfOk-weaker c.run_cluster.result (λ back. map asked back.0.items ≡ map left carriers) (λ back. All (λ k. asked k ≡ c.args.turns) back.0.items)
    (λ back same i d lt. all_told_alike asked left c.from.result back.0.items carriers same c.in_ok-carriers.ensures.turns i d lt ∙ c.from.ensures) c.run_cluster.ensures.turns
