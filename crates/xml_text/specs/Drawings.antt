-- Layers that are being written, and what they draw.
use Rattle.std.specs.Prelude.{◌≡◌, string_bytes}
use Rattle.xml_text.specs.Xml.{Drawn, render}
use Rattle.xml_text.specs.Xml.Xml.{Nothing}
use Rattle.xml_text.specs.declared.layers.Layers.{Layers}

-- each layer's text is that of its elements
pub record AreDrawn (layers : Layers) (d : Drawn) : Type 0 where
  pub rules : string_bytes layers.rules ≡ render d.rules
  pub bands : string_bytes layers.bands ≡ render d.bands
  pub arrows : string_bytes layers.arrows ≡ render d.arrows
  pub marks : string_bytes layers.marks ≡ render d.marks
  pub labels : string_bytes layers.labels ≡ render d.labels

-- nothing in any layer
abbrev pub not_drawn : Drawn
not_drawn = record { rules = Nothing; bands = Nothing; arrows = Nothing; marks = Nothing; labels = Nothing }
