use Rattle.modem.proofs.Owned.{all_held_is_owned}
use Rattle.modem.proofs.owner.one_owner.Goals as goal

pub returns-clause-held : goal.returns-clause-held
returns-clause-held c = all_held_is_owned

pub returns-clause-apart : goal.returns-clause-apart
returns-clause-apart c = λ outputs hearings other_hearings id other ch m sid other_sid schedule heard other_heard held other_held.
    schedule.one_owner ch m id other (all_held_is_owned outputs hearings id ch m sid schedule heard held) (all_held_is_owned outputs other_hearings other ch m other_sid schedule other_heard other_held)
