use Rattle.std.proofs.Common.{◌≡◌, ◌++◌, take}
use Rattle.std.specs.List.{flat_map}
use Rattle.map_text.specs.Texts.{request_lines}
use Rattle.map_text.proofs.plan_text.put_requests.Given as goal

abbrev pub invariant-loop-row : goal.invariant-loop-row
invariant-loop-row l = l.out.items ≡ l.initial.out.items ++ flat_map (request_lines l.ch) (take l.row-index l.rows)
