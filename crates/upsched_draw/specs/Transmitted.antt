-- What a modem transmitted in a run, as the picture of its MAPs has it.
use Rattle.std.specs.Prelude.{ℕ, List, Option, Some, None, slice_get}
use Rattle.map_picture.specs.declared.sent.Sent.{Sent}
use Rattle.seats.specs.declared.answer.Transmission.{Transmission}

-- an id, if there is one
abbrev pub id_for : Option ℕ → ℕ
id_for (Some id) = id
id_for None = 0

-- the same, with the id of the modem of that number
abbrev pub told : List ℕ → Transmission → Sent
told ids t = record { modem = t.modem; id = id_for (slice_get ids t.modem); channel = t.channel; slot = t.slot; sending = t.sending }
