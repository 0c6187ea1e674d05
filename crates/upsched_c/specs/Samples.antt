-- Structs with numbered fields.
use Rattle.std.specs.Prelude.{[], ◌∷◌}
use Rattle.upsched_c.specs.declared.samples.Samples.{Samples}
use Rattle.upsched_c.specs.declared.structs.MapElement.{MapElement}

abbrev pub element : MapElement
element = record { sid = 1; offset = 2; iuc = 3 }

-- the fields of each struct, numbered from 1 in their order
abbrev pub numbered : Samples
numbered = record {
  head = record { start = 1; ack = 2; channel = 3; ucd = 4; ranging_start = 5; ranging_end = 6; data_start = 7; data_end = 8 };
  elements = element ∷ element ∷ [];
  cell = record { sid = 1; iuc = 2 };
  command = record {
    kind = 1;
    modem = 2;
    tag = 3;
    interval = 4;
    jitter = 5;
    base = 6;
    last = 7;
    sent = 8;
    not_before = 9;
    ack = 10;
    sid = 11;
    minislots = 12;
    short_max = 13;
    keep = 14;
    ch = 15;
    ucd = 16;
    phy = 17;
    service = 18;
    priority = 19;
    ranging_start = 20;
    ranging_end = 21;
    data_start = 22;
    data_end = 23;
  };
  output = record { kind = 1; modem = 2; first = 3; last = 4; start = 5; body_len = 6; sid = 7; minislots = 8; ch = 9; ucd = 10; refusal = 11 };
  sending = record { kind = 1; sid = 2; minislots = 3 };
  event = record { slot = 1; first = 2; last = 3; kind = 4; sid = 5; minislots = 6; iuc = 7 };
  channel = record { next_start = 1; ack = 2; waiting = 3 };
  waiting = record { sent = 1; sid = 2; minislots = 3 };
  flow = record { due = 1; first = 2; last = 3; modem = 4; tag = 5; sid = 6; service = 7 };
}
