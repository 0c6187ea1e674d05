use Rattle.std.proofs.Common.{◌≡◌, ◌≤◌, List, length, take, vec_len}
use Rattle.std.specs.Vec.{vec_capacity}
use Rattle.ballots.specs.Voting.{Entry}
use Rattle.node.specs.View.{Standing}
use Rattle.seats.specs.Receiver.{Receiver}
use Rattle.seats.specs.Receiving.{Hold}
use Rattle.network_script.specs.Seats.{AllHonest, AllKeepTrust, AreStandings}
use Rattle.network_script.specs.Next.{Goes}
use Rattle.network_script.specs.Worlds.{written}
use Rattle.network_script.specs.Outward.{SeenAll}
use Rattle.network_script.specs.Counts.{CountRun, counts}
use Rattle.network_script.proofs.world.World.run.Given as goal

abbrev pub invariant-loop-event : goal.invariant-loop-event
invariant-loop-event g l = record {
  room : length l.events ≤ vec_capacity l.answers;
  count : vec_len l.answers ≡ l.event-index;
  honesty : AllHonest l.self.seats.items → AllHonest l.fn.self.seats.items;
  trust : AllKeepTrust l.fn.self.seats.items l.self.seats.items;
  members : length l.self.seats.items ≡ length l.fn.self.seats.items;
  run : AllHonest l.self.seats.items → (nodes : List Standing) (modems : List Receiver) (history : List Entry) → AreStandings l.fn.self.seats.items nodes → Hold l.fn.self.receivers modems
      → (nodes' : List Standing) × (modems' : List Receiver) × (history' : List Entry) × AreStandings l.self.seats.items nodes' × Hold l.self.receivers modems'
      × Goes (length nodes) (written l.fn.self nodes modems history) (take l.event-index l.events) l.answers.items (written l.self nodes' modems' history');
  seen : SeenAll l.fn.self (take l.event-index l.events) l.answers.items l.self;
  counted : CountRun (counts l.fn.self) (take l.event-index l.events) l.answers.items (counts l.self);
}
