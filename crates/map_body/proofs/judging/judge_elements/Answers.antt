use Rattle.map_body.proofs.Looks.{sound_if_none, judged_null, judged_none}
use Rattle.map_body.proofs.judging.judge_elements.Goals as goal

pub returns-in-Some-null : goal.returns-in-Some-null
returns-in-Some-null c =
    let saw = c.look_at_all-seen.ensures in
    let sound = sound_if_none saw.0 c.look_at_all-seen.result c.in_default.is saw.2 in
    (saw.0, saw.1, judged_null saw.0 c.look_at_all-seen.result c.in-Some-null.len sound c.in-Some-null.is)

pub returns-in-None : goal.returns-in-None
returns-in-None c =
    let saw = c.look_at_all-seen.ensures in
    let sound = sound_if_none saw.0 c.look_at_all-seen.result c.in_default.is saw.2 in
    (saw.0, saw.1, judged_none saw.0 c.look_at_all-seen.result sound c.in-None.is)
