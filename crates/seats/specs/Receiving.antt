-- How the modems' cores stand for the written receivers.
use Rattle.std.specs.Prelude.{◌≡◌, ℕ, ◌<◌, List, [], ◌∷◌, map, All, Option, Some, None}
use Rattle.modem.specs.State.{State, KnownChannel, channel_clock, new_modem}
use Rattle.modem.specs.Held.{HasHeard}
use Rattle.seats.specs.declared.answer.Transmission.{Transmission}
use Rattle.seats.specs.Receiver.{Receiver, new_receiver}
use Rattle.seats.specs.declared.receivers.Receivers.{Receivers}

-- a modem stands for a receiver: it is in its state, and may have heard just what it heard
pub record IsReceiver (v : State) (r : Receiver) : Type 0 where
  pub state : r.state ≡ v
  pub heard : HasHeard v r.heard

-- modems stand for receivers, place by place
abbrev pub AreReceivers : List State → List Receiver → Type 0
AreReceivers [] [] = Unit {0}
AreReceivers (v ∷ vs) (r ∷ rs) = IsReceiver v r × AreReceivers vs rs
AreReceivers vs rs = ⊥

-- the modems stand for these receivers
abbrev pub Hold : Receivers → List Receiver → Type 0
Hold receivers rs = AreReceivers receivers.modems.items rs

-- what they sent, in order
abbrev pub sent_by : Receivers → List Transmission
sent_by receivers = receivers.transmissions.items

-- a modem as it is made
abbrev pub IsNew : State → Type 0
IsNew v = v ≡ new_modem v.id

-- each modem is as it is made
abbrev pub AreNew : List State → Type 0
AreNew modems = All IsNew modems

-- the receivers of new modems
abbrev pub new_receivers : List State → List Receiver
new_receivers modems = map new_receiver (map (λ (v : State). v.id) modems)

-- a minislot before the clock of a channel that is known
abbrev pub IsBefore : ℕ → Option KnownChannel → Type 0
IsBefore slot None = ⊥
IsBefore slot (Some c) = slot < channel_clock c
