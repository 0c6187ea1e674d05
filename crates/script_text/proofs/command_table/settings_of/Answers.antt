use Rattle.script_text.proofs.command_table.settings_of.Goals as goal

pub returns-in_err-backoff_at-clause-only : goal.returns-in_err-backoff_at-clause-only
returns-in_err-backoff_at-clause-only c = λ s h.
    let found = c.in_err-backoff_at.ensures.only s.ranging_backoff h.ranging in
    cc

pub returns-in_err-backoff_at-2-clause-only : goal.returns-in_err-backoff_at-2-clause-only
returns-in_err-backoff_at-2-clause-only c = λ s h.
    let found = c.in_err-backoff_at-2.ensures.only s.data_backoff h.data_backoff in
    cc
