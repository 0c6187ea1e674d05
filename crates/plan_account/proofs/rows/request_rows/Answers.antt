use Rattle.std.proofs.Common.{rules}
use Rattle.std.proofs.lemmas.List.Sorted.{IsNonDecreasingBy-from_sort_by_key}
use Rattle.plan_account.specs.Accounts.{request_command}
use Rattle.plan_account.proofs.Rowing.{are_requests}
use Rattle.plan_account.proofs.rows.request_rows.Goals as goal

pub returns : goal.returns
returns c = λ ds held.
    are_requests ds c.args.flows.now c.in_ok-rows.rows.items c.sort_by_key.new.self.items c.len-count.ensures.ordered held c.in_ok-rows.ensures
    c.in_ok-sort_by_key.ensures.permutation
    (IsNonDecreasingBy-from_sort_by_key request_command _ c.in_ok-sort_by_key.ensures.sorted (λ a r q k. search rules))
