-- What `live` says of an audit.
use Rattle.std.specs.Prelude.{ℕ, List, [], ◌∷◌, ◌++◌, Result, Ok, Err, codes, decimal}
use Rattle.node_worker.specs.declared.audits.Torn.{Torn}
use Rattle.upsched_ends.specs.declared.status.Status.{Status}
use Rattle.upsched_ends.specs.declared.status.Status.TheVariants.{Done, Faulted}

-- the line of what an audit found
abbrev pub verdict_line : Result (Unit {0}) Torn → List ℕ
verdict_line (Ok whole) = codes "audit yes" ++ 10 ∷ []
verdict_line (Err torn) = codes "audit torn " ++ (decimal torn.0 ++ 10 ∷ [])

-- how the program ends with it
abbrev pub verdict_status : Result (Unit {0}) Torn → Status
verdict_status (Ok whole) = Done
verdict_status (Err torn) = Faulted
