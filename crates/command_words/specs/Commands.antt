-- Commands, and values that may spell one, in few words. Numbers are decimal.
use Rattle.std.specs.Prelude.{ℕ, List, [], ◌++◌, Option, Some, None, codes, decimal}
use Rattle.flow_state.specs.declared.flow.FlowKind.{FlowKind}
use Rattle.flow_state.specs.declared.flow.FlowKind.TheVariants.{BestEffort, Ugs, Poll, Station, Initial}
use Rattle.grant_machine.specs.declared.command.Command.{Command}
use Rattle.grant_machine.specs.declared.command.Command.TheVariants as commands
use Rattle.command_log.specs.Reading.{command_in}

-- the service of a flow, as a plan has it
abbrev pub service_name : FlowKind → List ℕ
service_name (BestEffort priority) = codes "best_effort"
service_name (Ugs size interval jitter base) = codes "ugs"
service_name (Poll interval jitter base) = codes "poll"
service_name (Station size interval jitter base) = codes "station"
service_name (Initial size interval jitter base) = codes "initial"

-- what a command does, but for its channel: its kind, as a plan has it, and what tells it from others
abbrev pub command_words : Command → List ℕ
command_words commands.Noop = codes "noop"
command_words (commands.Channel c) = codes "channel ucd " ++ decimal c.ucd
command_words (commands.Change ch s) = codes "change ucd " ++ decimal s.ucd
command_words (commands.Flow ch modem tag last kind) = codes "flow " ++ (service_name kind ++ (codes " modem " ++ decimal modem))
command_words (commands.Drop ch sid) = codes "drop sid " ++ decimal sid
command_words (commands.Request ch sid n sent) = codes "request " ++ (decimal n ++ (codes " sid " ++ decimal sid))
command_words (commands.Cut ch len not_before ack keep ranging sending) = codes "cut " ++ decimal len

-- the channel that it is about; a noop is about none
abbrev pub channel_words : Command → List ℕ
channel_words commands.Noop = []
channel_words (commands.Channel c) = codes " ch " ++ decimal c.id
channel_words (commands.Change ch s) = codes " ch " ++ decimal ch
channel_words (commands.Flow ch modem tag last kind) = codes " ch " ++ decimal ch
channel_words (commands.Drop ch sid) = codes " ch " ++ decimal ch
channel_words (commands.Request ch sid n sent) = codes " ch " ++ decimal ch
channel_words (commands.Cut ch len not_before ack keep ranging sending) = codes " ch " ++ decimal ch

-- the command that a value spells, without its channel and with it, or that it spells none
abbrev pub spelled_words : Option Command → List ℕ
spelled_words None = codes "no command"
spelled_words (Some c) = command_words c

abbrev pub spelled_text : Option Command → List ℕ
spelled_text None = codes "no command"
spelled_text (Some c) = command_words c ++ channel_words c

abbrev pub value_words : List ℕ → List ℕ
value_words value = spelled_words (command_in value)

abbrev pub value_text : List ℕ → List ℕ
value_text value = spelled_text (command_in value)
