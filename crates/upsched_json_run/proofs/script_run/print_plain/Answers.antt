use Rattle.std.proofs.Common.{refl}
use Rattle.upsched_json_run.proofs.script_run.print_plain.Goals as goal

-- records in memory are always honest
pub returns-clause-printed : goal.returns-clause-printed
returns-clause-printed g c =
    let told = c.in_ok-print_script_as_json.ensures.printed (λ k d below. refl) in
    rw c.in-Ok.ensures.count at told
