-- What the structs of the codec that C shares stand for.
use Rattle.map_body.specs.declared.head.Head.{Head}
use Rattle.map_body.specs.declared.element.Element.{Element}
use Rattle.upsched_c.specs.declared.structs.MapHead.{MapHead}
use Rattle.upsched_c.specs.declared.structs.MapElement.{MapElement}

-- the head of these fields
abbrev pub head_value : MapHead → Head
head_value h = record {
  channel = h.channel;
  ucd = h.ucd;
  start = h.start;
  ack = h.ack;
  ranging_backoff = (h.ranging_start, h.ranging_end);
  data_backoff = (h.data_start, h.data_end);
}

-- the element of these fields, whether or not they fit its bits
abbrev pub element_value : MapElement → Element
element_value e = record { sid = e.sid; iuc = e.iuc; offset = e.offset }
