use Rattle.std.proofs.Common.{◌≡◌, take, string_bytes}
use Rattle.xml_text.specs.Xml.{plain}
use Rattle.xml_text.proofs.plain.plain.Given as goal

-- so far
abbrev pub invariant-loop-byte : goal.invariant-loop-byte
invariant-loop-byte l = string_bytes l.same ≡ plain (take l.byte-index l.byte-items)
