use Rattle.std.proofs.Common.{take, flat_map}
use Rattle.std.specs.Io.KnownBytes.{Appends}
use Rattle.map_text.specs.Texts.{channel_text}
use Rattle.upsched_check.proofs.plan_draws.print_channels.Given as goal

abbrev pub invariant-loop-ch : goal.invariant-loop-ch
invariant-loop-ch g l =
    Appends (g.O.Write.contents l.initial.output) (g.O.Write.contents l.output) (flat_map (channel_text l.account) (take l.ch-index l.channels))
