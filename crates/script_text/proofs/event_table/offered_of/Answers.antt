use Rattle.toml.specs.View.{view}
use Rattle.script_text.specs.EventTable.{IsCommandBytes, IsHexBytes, OffersBytes}
use Rattle.script_text.proofs.ScriptFaults.{only_along}
use Rattle.script_text.proofs.event_table.offered_of.Goals as goal

pub returns-in-Some-None-clause-only : goal.returns-in-Some-None-clause-only
returns-in-Some-None-clause-only c =
    only_along _ (IsCommandBytes (view c.in-Some-None.command.now)) (OffersBytes (view c.args.table.now))
    (λ bytes offered. rw (← c.in-Some-None.ensures, ← c.in-Some-None.ensures') at offered)
    c.bytes_of_command.ensures.only

pub returns-in-None-Some-clause-only : goal.returns-in-None-Some-clause-only
returns-in-None-Some-clause-only c =
    only_along _ (IsHexBytes (view c.in-None-Some.digits.now)) (OffersBytes (view c.args.table.now))
    (λ bytes offered. rw (← c.in-None-Some.ensures, ← c.in-None-Some.ensures') at offered)
    c.bytes_of_hex.ensures.only
