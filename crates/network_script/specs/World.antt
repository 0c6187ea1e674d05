-- The written world: nodes, letters, outputs, modems and the voting history of a run.
use Rattle.std.specs.Prelude.{ℕ, List, [], ◌∷◌, map, replicate}
use Rattle.ballots.specs.declared.letters.Letter.{Letter}
use Rattle.ballots.specs.Voting.{Entry}
use Rattle.acceptor.specs.Content.{no_content}
use Rattle.node.specs.View.{Standing, started}
use Rattle.node.specs.View.Standing.{Running}
use Rattle.map_release.specs.declared.numbered.Numbered.{Numbered}
use Rattle.seats.specs.declared.answer.ReleasedOutput.{ReleasedOutput}
use Rattle.seats.specs.declared.answer.Transmission.{Transmission}
use Rattle.seats.specs.Receiver.{Receiver, new_receiver}

pub record Written : Type 0 where
  -- where each node stands, by its number
  pub nodes : List Standing
  -- every letter that was ever sent, in order: any of them may come at any time, again, or never
  pub letters : List Letter
  -- every output that a node released, in order
  pub outputs : List ReleasedOutput
  -- the modems, by their numbers
  pub modems : List Receiver
  -- what the modems sent, in order
  pub transmissions : List Transmission
  -- every promise and vote that a node committed, the newest first
  pub history : List Entry

-- these outputs, released by node k
abbrev pub released_by : ℕ → List Numbered → List ReleasedOutput
released_by k [] = []
released_by k (x ∷ xs) = record { node = k; numbered = x } ∷ released_by k xs

-- so many fresh nodes, modems with these ids, and nothing sent, released or voted for
abbrev pub opening : ℕ → List ℕ → Written
opening members ids = record {
  nodes = replicate members (Running (started no_content));
  letters = [];
  outputs = [];
  modems = map new_receiver ids;
  transmissions = [];
  history = [];
}
