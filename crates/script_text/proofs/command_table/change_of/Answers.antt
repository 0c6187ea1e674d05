use Rattle.script_text.proofs.Changes.{spells_nothing}
use Rattle.script_text.proofs.command_table.change_of.Goals as goal

pub returns-in_err-settings_of-clause-only : goal.returns-in_err-settings_of-clause-only
returns-in_err-settings_of-clause-only c =
    spells_nothing _ _ c.requires (λ s h. let found = c.in_err-settings_of.ensures.only s h in cc)
