use Rattle.upsched_live.proofs.Verdicts.{done_is_ok, done_is_yes}
use Rattle.upsched_live.proofs.live_run.live.Goals as goal

pub returns-in-Ok-clause-audited : goal.returns-in-Ok-clause-audited
returns-in-Ok-clause-audited g c = λ done.
    (c.in-Ok.audited, c.in-Ok.ensures.audited, done_is_ok c.in-Ok.audited.verdict c.status_of.result c.status_of.ensures done)

pub returns-in-Ok-clause-printed : goal.returns-in-Ok-clause-printed
returns-in-Ok-clause-printed g c = done_is_yes c.in-Ok.audited.verdict c.status_of.result _ _ c.status_of.ensures c.in-Ok.ensures.audited.printed
