-- The struct that an output is told by.
use Rattle.std.specs.Prelude.{ℕ, ◌≤◌, List, length}
use Rattle.grant_machine.specs.declared.output.Output.{Output}
use Rattle.grant_machine.specs.declared.output.Output.TheVariants as outputs
use Rattle.upsched_c_parts.specs.declared.output.OutputFields.{OutputFields}
use Rattle.upsched_c_parts.specs.Fronts.{over_front}

-- all fields 0
abbrev pub no_fields : OutputFields
no_fields = record { kind = 0; modem = 0; first = 0; last = 0; start = 0; body_len = 0; sid = 0; minislots = 0; ch = 0; ucd = 0; refusal = 0 }

-- an output's number, the fields that it has, and 0 in the others
abbrev pub output_fields : Output → OutputFields
output_fields outputs.Nothing = no_fields
output_fields (outputs.ChannelSet ch ucd) = record no_fields { kind = 1; ch = ch; ucd = ucd }
output_fields (outputs.Assigned modem ch sid first last) = record no_fields { kind = 2; modem = modem; ch = ch; sid = sid; first = first; last = last }
output_fields (outputs.Map ch start len bytes) = record no_fields { kind = 3; ch = ch; start = start; minislots = len; body_len = length bytes }
output_fields (outputs.Refused number) = record no_fields { kind = 4; refusal = number }

-- a MAP's bytes are no more than there is room for
abbrev pub FitsRoom : Output → Type 0
FitsRoom outputs.Nothing = Unit {0}
FitsRoom (outputs.ChannelSet _ _) = Unit {0}
FitsRoom (outputs.Assigned _ _ _ _ _) = Unit {0}
FitsRoom (outputs.Map _ _ _ bytes) = length bytes ≤ 1036
FitsRoom (outputs.Refused _) = Unit {0}

-- the room for a body after an output: a MAP's bytes at its front
abbrev pub body_after : Output → List ℕ → List ℕ
body_after outputs.Nothing room = room
body_after (outputs.ChannelSet _ _) room = room
body_after (outputs.Assigned _ _ _ _ _) room = room
body_after (outputs.Map _ _ _ bytes) room = over_front bytes room
body_after (outputs.Refused _) room = room
