use Rattle.script_text.proofs.command_table.channel_fields.Goals as goal

pub returns-in_err-phy_or_tdma-clause-only : goal.returns-in_err-phy_or_tdma-clause-only
returns-in_err-phy_or_tdma-clause-only c = λ channel h.
    let found = c.in_err-phy_or_tdma.ensures.only channel.phy h.phy in
    cc

pub returns-in_err-backoff_at-clause-only : goal.returns-in_err-backoff_at-clause-only
returns-in_err-backoff_at-clause-only c = λ channel h.
    let found = c.in_err-backoff_at.ensures.only channel.ranging_backoff h.ranging in
    cc

pub returns-in_err-backoff_at-2-clause-only : goal.returns-in_err-backoff_at-2-clause-only
returns-in_err-backoff_at-2-clause-only c = λ channel h.
    let found = c.in_err-backoff_at-2.ensures.only channel.data_backoff h.data_backoff in
    cc
