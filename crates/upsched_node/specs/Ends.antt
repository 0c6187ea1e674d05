-- What is told of lines that ended before their input did.
use Rattle.std.specs.Prelude.{◌≡◌, codes}
use Rattle.node_lines.specs.declared.writing.Unwritten.{Unwritten}
use Rattle.node_lines.specs.declared.writing.Unwritten.TheVariants as unwritten
use Rattle.upsched_ends.specs.declared.fault.Fault.{Fault}
use Rattle.upsched_ends.specs.declared.fault.Fault.TheVariants.{Memory, Output, Unreadable}

-- of a text that couldn't be written
abbrev pub write_fault : Unwritten → Fault
write_fault unwritten.OutOfMemory = Memory
write_fault unwritten.Output = Output

-- of an input that failed, or that has more lines than a run may have
abbrev pub IsOfInput : Fault → Type 0
IsOfInput (Unreadable name) = name.now ≡ codes "standard input"
IsOfInput other = ⊥
