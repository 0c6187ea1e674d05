-- The fields of an object, by key.
use Rattle.std.specs.Prelude.{ℕ, List, decimal}
use Rattle.serde_json.specs.Data.{number, unsigned, string, Members, put}

-- with a number
abbrev pub with_number : List ℕ → ℕ → Members → Members
with_number key n ms = put key (number (unsigned n)) ms

-- with a text
abbrev pub with_text : List ℕ → List ℕ → Members → Members
with_text key text ms = put key (string text) ms

-- with a time: as a text, in decimal, since many readers of JSON hold no number beyond 2^53
abbrev pub with_time : List ℕ → ℕ → Members → Members
with_time key time ms = put key (string (decimal time)) ms
