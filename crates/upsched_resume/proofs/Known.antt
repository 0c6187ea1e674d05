-- Faults of files of tables whose bytes are known, and plans that are printed behind some tables.
use Rattle.std.proofs.Common.{◌≡◌, ℕ, List, Option, None, Some, IfSome, Result, Ok, Err, OnOk}
use Rattle.std.specs.Io.KnownBytes.{Appends}
use Rattle.flow_state.specs.Rows.{Rows}
use Rattle.grant_machine.specs.declared.command.Command.{Command}
use Rattle.grant_machine.specs.Runs.{outputs_from, rows_from}
use Rattle.script_text.specs.Plan.{IsPlan}
use Rattle.upsched_maps.specs.Lines.{output_lines}
use Rattle.upsched_resume.specs.declared.fault.ResumeFault.{ResumeFault}
use Rattle.upsched_resume.specs.declared.fault.ResumeFault.TheVariants.{Fault, NoRows, Rows as NotRows}
use Rattle.upsched_resume.specs.Files.{IsOfRows, IsRowsFault, IsRowsFile, TellsRowsFault}
use Rattle.upsched_resume.specs.Resuming.{ResumesPlan}

of_rows : (bytes : List ℕ) (fault : ResumeFault) → IsRowsFault bytes fault → IsOfRows fault
of_rows bytes (Fault fault) why = why
of_rows bytes NoRows why = tt
of_rows bytes (NotRows number fault) why = why.0

-- why bytes that were read are no file of tables is why the bytes of the file are none, where they are known
pub fault_known : (known : Option (List ℕ)) (read : List ℕ) (fault : ResumeFault) → IfSome known (λ bytes. read ≡ bytes) → IsRowsFault read fault → TellsRowsFault known fault
fault_known None read fault same why = (of_rows read fault why, tt)
fault_known (Some bytes) read fault same why = (of_rows read fault why, rw same at why)

-- likewise where they are one
pub file_known : (known : Option (List ℕ)) (read : List ℕ) (rows : Rows) → IfSome known (λ bytes. read ≡ bytes) → IsRowsFile read rows → IfSome known (λ bytes. IsRowsFile bytes rows)
file_known None read rows same file = tt
file_known (Some bytes) read rows same file = rw same at file

-- where the outputs of a plan's commands were printed, and the tables are those behind them, the plan was resumed
pub plan_resumed : {T E : Type 0} (r : Result T E) (known old new : Option (List ℕ)) (begun left : Rows) (cs : List Command) → IfSome known (λ text. IsPlan text cs)
    → OnOk r (left ≡ rows_from begun cs) → OnOk r (Appends old new (output_lines 1 (outputs_from begun cs))) → OnOk r (ResumesPlan known begun left old new)
plan_resumed (Err e) known old new begun left cs plan rows prints = tt
plan_resumed (Ok x) None old new begun left cs plan rows prints = (cs, record { printed = prints; rows = rows })
plan_resumed (Ok x) (Some text) old new begun left cs plan rows prints = (cs, plan, record { printed = prints; rows = rows })
