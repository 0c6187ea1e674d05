use Rattle.std.proofs.Common.{sym, ◌∙◌}
use Rattle.grant_machine_parts.proofs.Drawn.{holder_at}
use Rattle.grant_machine_parts.proofs.drawing.holder_near.Goals as goal

pub returns-then-holds : goal.returns-then-holds
returns-then-holds c = holder_at c.args.placements.now c.in-Some.placement.now c.args.number c.args.x (c.requires c.if-is_apart.true) c.in-Some.ensures.lookup.0 c.in-Some.ensures.lookup.1 (sym c.holds.ensures ∙ c.if-holds.true)
