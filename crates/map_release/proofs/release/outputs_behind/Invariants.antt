use Rattle.std.proofs.Common.{◌≡◌, take}
use Rattle.map_release.specs.Released.{applied_outputs, released}
use Rattle.map_release.proofs.release.outputs_behind.Given as goal

abbrev pub invariant-loop-passed : goal.invariant-loop-passed
invariant-loop-passed l = l.outputs.items ≡ released l.now l.cursor (take l.passed (applied_outputs l.log))
