use Rattle.std.proofs.Common.{◌≡◌, ◌≤◌, ◌+◌, ◌-◌, map, take, length, vec_len, vec_capacity}
use Rattle.grant_machine.specs.CutRows.{rank_in}
use Rattle.grant_machine.proofs.rows.rank_requests.Given as goal

-- the requests so far, and room for the others
abbrev pub invariant-loop-request : goal.invariant-loop-request
invariant-loop-request l = record {
  items : l.ranked.items ≡ map (rank_in l.table) (take l.request-index l.table.waiting);
  room : vec_len l.ranked + (length l.table.waiting - l.request-index) ≤ vec_capacity l.ranked;
}
