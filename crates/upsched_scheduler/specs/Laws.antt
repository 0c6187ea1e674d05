-- Where every line asks for a command, what is printed is what `maps` prints.
use Rattle.std.specs.Prelude.{◌≢◌, ℕ, List, Option}
use Rattle.std.specs.Io.KnownBytes.{Appends}
use Rattle.std.specs.List.{AllZip}
use Rattle.grant_machine.specs.Runs.{outputs_of}
use Rattle.grant_machine.specs.declared.command.Command.{Command}
use Rattle.node_lines.specs.declared.fault.LineFault.TheVariants as fault
use Rattle.upsched_json.specs.Plans.{PrintsOutputs}
use Rattle.upsched_maps.specs.Lines.{output_lines}
use Rattle.scheduler_lines.specs.declared.form.ReplyForm.{ReplyForm}
use Rattle.scheduler_lines.specs.declared.form.ReplyForm.TheVariants.{Plain, Json}
use Rattle.scheduler_lines.specs.declared.outgoing.Reply.{Reply}
use Rattle.scheduler_lines.specs.declared.outgoing.Reply.TheVariants as reply
use Rattle.scheduler_lines.specs.Asking.{AsksFor}

-- each line asks for its command, and there was memory for it
abbrev pub AsksForEach : List (List ℕ × Reply) → List Command → Type 0
AsksForEach turns cs = AllZip (λ turn c. AsksFor turn.0 c × (turn.1 ≢ reply.Refused fault.OutOfMemory)) turns cs

-- what `maps` prints of commands in a form
abbrev pub PrintsAsMaps : ReplyForm → List Command → Option (List ℕ) → Option (List ℕ) → Type 0
PrintsAsMaps Plain cs old new = Appends old new (output_lines 1 (outputs_of cs))
PrintsAsMaps Json cs old new = PrintsOutputs (outputs_of cs) old new
