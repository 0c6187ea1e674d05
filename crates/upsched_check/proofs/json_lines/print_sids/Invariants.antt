use Rattle.std.proofs.Common.{◌≡◌, List, ◌++◌, map}
use Rattle.serde_json.specs.Data.{Data}
use Rattle.upsched_check.specs.StatsAsJson.{sid_value, PrintsValues}
use Rattle.upsched_check.proofs.json_lines.print_sids.Given as goal

abbrev pub invariant-loop-key : goal.invariant-loop-key
invariant-loop-key g l = (done : List Data)
    × PrintsValues done (g.O.Write.contents l.initial.output) (g.O.Write.contents l.output)
    × (done ++ map sid_value l.key-iterator ≡ map sid_value l.sids.entries)
