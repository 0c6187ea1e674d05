use Rattle.std.proofs.Common.{map, take}
use Rattle.std.specs.List.{AllZip}
use Rattle.serde_json.specs.View.{view}
use Rattle.json_answers.specs.Events.{TellsRelease}
use Rattle.json_answers.proofs.events.release_values.Given as goal

abbrev pub invariant-loop-one : goal.invariant-loop-one
invariant-loop-one l = AllZip TellsRelease (take l.one-index l.released) (map view l.values.items)
