use Rattle.std.proofs.Common.{sym, ap, ◌∙◌}
use Rattle.std.specs.Prelude.{slice_index}
use Rattle.grant_machine_parts.proofs.Numbered.{none_grants}
use Rattle.grant_machine_parts.proofs.waiting.Grants.have.Goals as goal

pub returns-then-number-eq0 : goal.returns-then-number-eq0
returns-then-number-eq0 c = sym (none_grants c.args.self.now.numbers c.args.placements.now c.args.request.now c.requires.each (ap (slice_index c.args.self.now.numbers) (sym c.from.ensures) ∙ sym c.from-number.ensures ∙ c.if-number-eq0.true))
