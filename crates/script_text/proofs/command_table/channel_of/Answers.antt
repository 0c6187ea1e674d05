use Rattle.script_text.proofs.Channels.{spells_nothing}
use Rattle.script_text.proofs.command_table.channel_of.Goals as goal

pub returns-in_err-channel_fields-clause-only : goal.returns-in_err-channel_fields-clause-only
returns-in_err-channel_fields-clause-only c =
    spells_nothing _ _ c.requires (λ channel h. let found = c.in_err-channel_fields.ensures.only channel h in cc)
