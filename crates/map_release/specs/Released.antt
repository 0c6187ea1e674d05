-- What is released of the outputs of a log.
use Rattle.std.specs.Prelude.{ℕ, ◌+◌, Bool, false, not, nat_le, List, [], ◌∷◌, filter, take, drop}
use Rattle.grant_machine.specs.declared.output.Output.{Output}
use Rattle.grant_machine.specs.declared.output.Output.TheVariants.{Nothing, ChannelSet, Assigned, Map, Refused}
use Rattle.command_log.specs.Values.{outputs_of_values, gapless}
use Rattle.command_log.specs.View.{LogView}
use Rattle.map_release.specs.declared.numbered.Numbered.{Numbered}

-- outputs with their places, from place p on
abbrev pub numbered : ℕ → List Output → List Numbered
numbered p [] = []
numbered p (o ∷ os) = record { place = p; output = o } ∷ numbered (p + 1) os

-- the output is a MAP whose last minislot lies before this time
abbrev pub has_ended : ℕ → Output → Bool
has_ended now Nothing = false
has_ended now (ChannelSet ch ucd) = false
has_ended now (Assigned modem ch sid first last) = false
has_ended now (Map ch start len bytes) = nat_le (start + len) now
has_ended now (Refused n) = false

-- the outputs behind the cursor, without the MAPs that have ended
abbrev pub released : (now cursor : ℕ) → List Output → List Numbered
released now cursor outputs = filter (λ x. not (has_ended now x.output)) (drop cursor (numbered 1 outputs))

-- the outputs of the values that a log has applied
abbrev pub applied_outputs : LogView → List Output
applied_outputs log = take log.applied (outputs_of_values (gapless log.learned))
