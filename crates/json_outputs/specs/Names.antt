-- The names of refusals.
use Rattle.std.specs.Prelude.{ℕ, ◌==◌, if◌then◌else◌, List, [], codes}
use Rattle.flow_state.specs.declared.refusal.Refusal.TheVariants.{NoChannel, ChannelThere, NoFlow, SidsSpent, Busy}
use Rattle.flow_state.specs.declared.refusal.Refusal.TheVariants.{OldRequest, BadValue, OutOfMemory}
use Rattle.flow_state.specs.Refusals.{refusal_number}

-- the refusal that a number stands for; empty, where it stands for none
abbrev pub refusal_name : ℕ → List ℕ
refusal_name number =
    if number == refusal_number NoChannel then codes "NoChannel"
    else if number == refusal_number ChannelThere then codes "ChannelThere"
    else if number == refusal_number NoFlow then codes "NoFlow"
    else if number == refusal_number SidsSpent then codes "SidsSpent"
    else if number == refusal_number Busy then codes "Busy"
    else if number == refusal_number OldRequest then codes "OldRequest"
    else if number == refusal_number BadValue then codes "BadValue"
    else if number == refusal_number OutOfMemory then codes "OutOfMemory"
    else []
