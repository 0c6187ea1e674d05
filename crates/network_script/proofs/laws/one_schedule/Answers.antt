use Rattle.network_script.proofs.Schedule.{one_schedule, gapless_is_beginning, released_is_output, maps_are_one}
use Rattle.network_script.proofs.Schedule.{covers_once}
use Rattle.network_script.proofs.laws.one_schedule.Goals as goal

pub returns : goal.returns
returns c = record { one = one_schedule; gapless = gapless_is_beginning; released = released_is_output; maps = maps_are_one; covers = covers_once }
