-- A modem of the written world.
use Rattle.std.specs.Prelude.{ℕ, List, []}
use Rattle.modem.specs.State.{State, new_modem}
use Rattle.modem.specs.Held.{Hearing}

-- a modem, and what it has heard, the newest first
pub record Receiver : Type 0 where
  pub state : State
  pub heard : List Hearing

-- a modem that has heard nothing
abbrev pub new_receiver : ℕ → Receiver
new_receiver id = record { state = new_modem id; heard = [] }
