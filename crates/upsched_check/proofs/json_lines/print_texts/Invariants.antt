use Rattle.std.proofs.Common.{map, take, string_bytes}
use Rattle.std.specs.Io.KnownBytes.{Appends}
use Rattle.upsched_json.specs.Plans.{text_lines}
use Rattle.upsched_check.proofs.json_lines.print_texts.Given as goal

abbrev pub invariant-loop-text : goal.invariant-loop-text
invariant-loop-text g l =
    Appends (g.O.Write.contents l.initial.output) (g.O.Write.contents l.output) (text_lines (map string_bytes (take l.text-index l.texts)))
