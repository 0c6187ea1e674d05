-- What the words tell that look into a plan.
use Rattle.std.specs.Prelude.{◌≡◌, ℕ, ◌≤◌, Bool, true, ◌&&◌, not, is_some, codes, List, [], ◌∷◌, length, Option, Some}
use Rattle.std.specs.Prelude.{None, flat_map}
use Rattle.std.specs.Io.KnownBytes.{Appends}
use Rattle.toml.specs.Data.{Data, get, table, Members}
use Rattle.toml.specs.Parse.{parse_document}
use Rattle.grant_machine.specs.declared.command.Command.{Command}
use Rattle.grant_machine.specs.declared.output.Output.{Output}
use Rattle.grant_machine.specs.declared.output.Output.TheVariants.{Nothing, ChannelSet, Assigned, Map, Refused}
use Rattle.grant_machine.specs.Runs.{outputs_of}
use Rattle.map_frames.specs.Frames.{longest_body}
use Rattle.map_frames.specs.Captures.{capture_of}
use Rattle.script_text.specs.Plan.{IsPlan}
use Rattle.upsched_check.specs.Reports.{is_script}

-- ---- scripts

-- the text has a key of a script
abbrev pub IsScriptText : List ℕ → Type 0
IsScriptText text = (ms : Members) × (parse_document text ≡ Some ms) × (is_script (table ms) ≡ true)

-- and as a plan it has no commands
abbrev pub IsScriptAlone : List ℕ → Type 0
IsScriptAlone text = IsPlan text [] × IsScriptText text

-- the text has the key of a plan's commands, and none of a script's
abbrev pub is_plan : Data → Bool
is_plan d = is_some (get (codes "command") d) && not (is_script d)

abbrev pub IsPlanText : List ℕ → Type 0
IsPlanText text = (ms : Members) × (parse_document text ≡ Some ms) × (is_plan (table ms) ≡ true)

-- the text is known to be a script without commands
abbrev pub IsKnownScript : Option (List ℕ) → Type 0
IsKnownScript None = ⊥
IsKnownScript (Some text) = IsScriptAlone text

-- ---- MAPs

-- the body of an output that is a MAP, and those of outputs in order
abbrev pub bodies_in : Output → List (List ℕ)
bodies_in Nothing = []
bodies_in (ChannelSet ch ucd) = []
bodies_in (Assigned modem ch sid first last) = []
bodies_in (Map ch start len bytes) = bytes ∷ []
bodies_in (Refused number) = []

abbrev pub bodies_of : List Output → List (List ℕ)
bodies_of os = flat_map bodies_in os

-- its MAP, if it is one, fits a frame
abbrev pub FitsFrame : Output → Type 0
FitsFrame Nothing = Unit {0}
FitsFrame (ChannelSet ch ucd) = Unit {0}
FitsFrame (Assigned modem ch sid first last) = Unit {0}
FitsFrame (Map ch start len bytes) = length bytes ≤ longest_body
FitsFrame (Refused number) = Unit {0}

-- what is written is the capture of the MAPs of the plan's commands, where the plan's text is known
abbrev pub CapturesPlan : Option (List ℕ) → Option (List ℕ) → Option (List ℕ) → Type 0
CapturesPlan None old new = Unit {0}
CapturesPlan (Some text) old new = (cs : List Command) × IsPlan text cs × Appends old new (capture_of (bodies_of (outputs_of cs)))
