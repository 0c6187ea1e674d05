use Rattle.std.proofs.Common.{refl, ℕ, List, length, map}
use Rattle.modem.specs.State.{State}
use Rattle.network_script.specs.World.{opening}
use Rattle.upsched_script.proofs.Tried.{run_of}
use Rattle.upsched_script.proofs.trial.report_of.Goals as goal

-- records in memory are always honest
pub returns : goal.returns
returns c =
    let members : ℕ = length c.in-Ok.nodes.items in
    let ids : List ℕ = map {A = State} {B = ℕ} (λ modem. modem.id) c.in-Ok-new_modems.modems.items in
    let told = c.in-Ok-run.ensures.run (λ k d below. refl) (opening members ids) (c.in-Ok-new.ensures.opens (c.in-Ok-run.ensures.honesty (λ k d below. refl))) in
    rw (c.as_slice.ensures.value, c.as_slice-2.ensures.value) at (run_of members ids _ _ _ _ told.0 c.in-Ok.ensures.count c.in-Ok-new_modems.ensures.ids told.1)
