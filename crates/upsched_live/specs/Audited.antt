-- What `live` audits.
use Rattle.std.specs.Prelude.{◌≡◌, ◌↔◌, ℕ, List, Option, All, IsOk, length}
use Rattle.std.specs.Io.KnownBytes.{Appends}
use Rattle.node_worker.specs.Audits.{IsCluster, IsWhole}
use Rattle.node_worker.specs.Runs.{AreLegal}
use Rattle.upsched_live.specs.declared.live_run.Audited.{Audited}
use Rattle.upsched_live.specs.Verdict.{verdict_line}

-- three nodes that had so many turns each, their ledger, and what its audit found, whose line was printed
pub record IsAudited (turns : ℕ) (a : Audited) (old new : Option (List ℕ)) : Type 0 where
  -- the nodes, by number, each of which could do as much as it had turns
  pub cluster : (length a.kepts.items ≡ 3) × IsCluster a.kepts.items
  pub quotas : All (λ k. k.quota ≡ turns) a.kepts.items
  -- the worker of each node asked what was handed in for it in as many turns, as the node has counted
  pub asked : All (λ k. k.turns ≡ turns) a.kepts.items
  -- what came back was given so many turns, and has none left
  pub carriers : (length a.carriers.items ≡ 3) × All (λ c. c.turns ≡ 0) a.carriers.items
  pub given : All (λ c. c.given ≡ turns) a.carriers.items
  -- the ledger is a run, and the audit finds no fault exactly where it is what these nodes did
  pub legal : AreLegal a.plant.members a.plant.records a.plant.modems
  pub whole : IsOk a.verdict ↔ IsWhole a.kepts.items a.plant.records
  pub printed : Appends old new (verdict_line a.verdict)
