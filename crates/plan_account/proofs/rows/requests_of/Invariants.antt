use Rattle.std.proofs.Common.{◌≡◌, ◌++◌}
use Rattle.std.specs.List.{flat_map}
use Rattle.plan_account.specs.Accounts.{requests_in}
use Rattle.plan_account.proofs.rows.requests_of.Given as goal

abbrev pub invariant-loop-key : goal.invariant-loop-key
invariant-loop-key l = l.rows.items ++ flat_map (requests_in l.flows) l.key-iterator ≡ flat_map (requests_in l.flows) l.flows.pasts.entries
