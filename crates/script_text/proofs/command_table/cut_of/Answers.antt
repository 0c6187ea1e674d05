use Rattle.script_text.proofs.Cuts.{spells_nothing}
use Rattle.script_text.proofs.command_table.cut_of.Goals as goal

pub returns-in_err-keep_of-clause-only : goal.returns-in_err-keep_of-clause-only
returns-in_err-keep_of-clause-only c =
    spells_nothing _ _ c.requires (λ keep ranging sending h. let found = c.in_err-keep_of.ensures.only keep h.0 in cc)

pub returns-in_err-backoff_or_own-clause-only : goal.returns-in_err-backoff_or_own-clause-only
returns-in_err-backoff_or_own-clause-only c =
    spells_nothing _ _ c.requires (λ keep ranging sending h. let found = c.in_err-backoff_or_own.ensures.only ranging h.1 in cc)

pub returns-in_err-backoff_or_own-2-clause-only : goal.returns-in_err-backoff_or_own-2-clause-only
returns-in_err-backoff_or_own-2-clause-only c =
    spells_nothing _ _ c.requires (λ keep ranging sending h. let found = c.in_err-backoff_or_own-2.ensures.only sending h.2 in cc)
