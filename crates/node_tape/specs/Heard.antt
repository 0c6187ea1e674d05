-- What is left of an input of which a byte may have been read ahead, and what is noted of it.
use Rattle.std.specs.Prelude.{◌≡◌, ℕ, List, [], Option, Some, None}
use Rattle.std.specs.Option.{option_to_list}
use Rattle.std.specs.Io.KnownBytes.{Consumes, IsAtEnd, Keeps, append_known, prepend_known}

-- the byte that is ahead, and then what the input has left
abbrev pub bytes_left : Option ℕ → Option (List ℕ) → Option (List ℕ)
bytes_left ahead rest = prepend_known (option_to_list ahead) rest

-- this byte is ahead and nothing is consumed, or nothing is left
abbrev pub IsAhead : Option (List ℕ) → Option ℕ → Option ℕ → Option (List ℕ) → Type 0
IsAhead old (Some byte) ahead rest = (ahead ≡ Some byte) × Keeps old (bytes_left ahead rest)
IsAhead old None ahead rest = Consumes old (bytes_left ahead rest) [] × IsAtEnd (bytes_left ahead rest)

-- what the journal has, and then what waits of the line
abbrev pub bytes_noted : Option (List ℕ) → List ℕ → Option (List ℕ)
bytes_noted journal line = append_known journal line
