use Rattle.std.proofs.Common.{◌≡◌, ◌++◌, take, flat_map, string_bytes}
use Rattle.printed_scripts.specs.Texts.{head_text, event_line}
use Rattle.printed_scripts.proofs.texts.script_text.Given as goal

abbrev pub invariant-loop-event : goal.invariant-loop-event
invariant-loop-event l =
    string_bytes l.text
    ≡ head_text l.fn.script.members l.fn.script.modems.items ++ flat_map event_line (take l.event-index l.fn.script.events.items)
