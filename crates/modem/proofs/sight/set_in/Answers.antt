use Rattle.std.proofs.Common.{◌==◌, cond, arith}
use Rattle.std.proofs.lemmas.List.Edits.{map_over_more}
use Rattle.std.proofs.lemmas.List.{get_or_default}
use Rattle.modem.specs.declared.sight.Sight.{Sight}
use Rattle.modem.proofs.sight.set_in.Goals as goal

pub loop-sight-preserved : goal.loop-sight-preserved
loop-sight-preserved c =
    rw c.chosen.ensures (map_over_more (λ (s : Sight). cond (s.channel == c.args.row.now.channel) c.args.row.now s) c.args.sights.now c.loop-sight.sights c.loop-sight.sight-index _ c.loop-sight-test.true c.loop-sight.invariant (get_or_default c.loop-sight.sights c.loop-sight.sight-index _ _ (omega arith)))
