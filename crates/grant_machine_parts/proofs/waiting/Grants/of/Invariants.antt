use Rattle.std.proofs.Common.{◌≡◌, length, take}
use Rattle.std.specs.List.{AllByRecursion}
use Rattle.grant_machine_parts.specs.Granted.{IsNumbered}
use Rattle.grant_machine_parts.proofs.waiting.Grants.of.Given as goal

-- the placements so far have numbers
abbrev pub invariant-loop-i : goal.invariant-loop-i
invariant-loop-i l = record {
  whole : length l.numbers ≡ 256;
  each : AllByRecursion (IsNumbered l.numbers) (take l.i l.placements);
}
