use Rattle.script_text.proofs.Flows.{spells_nothing}
use Rattle.script_text.proofs.command_table.flow_of.Goals as goal

pub returns-in_err-last_of-clause-only : goal.returns-in_err-last_of-clause-only
returns-in_err-last_of-clause-only c =
    spells_nothing _ _ c.requires (λ last h. let found = c.in_err-last_of.ensures.only last h in cc)
