use Rattle.std.proofs.Common.{◌≡◌, ◌++◌, map, take}
use Rattle.grant_machine_parts.specs.Cutting.{end_of, still_waiting}
use Rattle.grant_machine_parts.specs.Drawing.{pending_element}
use Rattle.grant_machine_parts.specs.Ranks.{requests_in, going_on}
use Rattle.grant_machine_parts.proofs.drawing.put_pending.Given as goal

-- the elements of the requests before this one
abbrev pub invariant-loop-one : goal.invariant-loop-one
invariant-loop-one l = l.elements.items
    ≡ l.initial.elements.items ++ map (pending_element l.channel l.filling.span.len) (still_waiting l.filling.placements (requests_in (going_on (end_of l.filling.span) (take l.one-index l.ranked))))
