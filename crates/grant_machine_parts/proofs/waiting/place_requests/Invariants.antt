use Rattle.std.proofs.Common.{◌≡◌, ℕ, drop}
use Rattle.std.specs.List.{AllByRecursion}
use Rattle.grant_machine_parts.specs.Placing.{free_minislots}
use Rattle.grant_machine_parts.specs.Cutting.{place_requests}
use Rattle.grant_machine_parts.specs.Ranks.{requests_in, IsOfLast}
use Rattle.grant_machine_parts.proofs.waiting.place_requests.Given as goal

-- the requests from this one on, after those before it, and how many minislots are free
abbrev pub invariant-loop-one : goal.invariant-loop-one
invariant-loop-one l = record {
  span : l.filling.span ≡ l.fn.filling.span;
  counted : l.free ≡ free_minislots l.filling.span l.filling.placements;
  rest : (last : ℕ → ℕ) → AllByRecursion (IsOfLast last) l.ranked
      → place_requests l.fn.filling.span l.channel l.keep last (requests_in l.ranked) l.fn.filling.placements ≡ place_requests l.fn.filling.span l.channel l.keep last (requests_in (drop l.one-index l.ranked)) l.filling.placements;
}
