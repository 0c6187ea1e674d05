-- The elements of several, one behind the other.
use Rattle.std.specs.Prelude.{ℕ, zero, suc}
use Rattle.xml_text.specs.Xml.{Xml, join}
use Rattle.xml_text.specs.Xml.Xml.{Nothing}

-- the elements of f 0, f 1, .. and f (n - 1)
abbrev pub each : ℕ → (ℕ → Xml) → Xml
each zero f = Nothing
each (suc n) f = join (each n f) (f n)
