-- What is told of a whole call is its one write.
use Rattle.std.specs.Prelude.{ℕ, ◌<◌, [], ◌∷◌, Option, None, Ok}
use Rattle.acceptor.specs.Content.{AreRowsFrom}
use Rattle.node.specs.Calls.{Cause}
use Rattle.node.specs.Calls.Cause.{Receive, Lead, Offer, Tell}
use Rattle.node.specs.Step.{Outcome}
use Rattle.node_writes.specs.declared.write_bytes.WriteBytes.{WriteBytes}
use Rattle.node_writes.specs.Writes.{LeadTo, SpellsOf}
use Rattle.told_writes.specs.States.{NodeState, Takes}
use Rattle.told_writes.specs.Telling.{IsOpen, WritesAfter}
use Rattle.told_writes.specs.Writes.{HandsOut}

-- these bytes are what is told of a call that came out so: of a letter's by the place that was open before, of a lead by
-- its letters alone, and of an offer or of telling that there is no write
abbrev pub IsToldOf : NodeState → Cause → Outcome → WriteBytes → Type 0
IsToldOf n (Receive l) o r = (place : Option ℕ) × IsOpen n.view.tally.learned l.note place × WritesAfter n.id o.view.tally.learned o.letters place r
IsToldOf n Lead o r = WritesAfter n.id o.view.tally.learned o.letters None r
IsToldOf n (Offer v) o r = SpellsOf n.id r None
IsToldOf n (Tell to q) o r = SpellsOf n.id r None

-- what is told of a whole call, of one among one or more members, is its one write
abbrev pub ToldIsWritten : Type 0
ToldIsWritten =
    (n : NodeState) (cause : Cause) (o : Outcome) (r : WriteBytes) → 0 < n.members → Takes n cause (Ok o) → IsToldOf n cause o r
    → HandsOut n.id n.view.content o.write r

-- and it leads from the content before the call to that after it, where the votes stood by ascending place
abbrev pub ToldLeadsOn : Type 0
ToldLeadsOn =
    (n : NodeState) (cause : Cause) (o : Outcome) (r : WriteBytes) → 0 < n.members → Takes n cause (Ok o) → IsToldOf n cause o r
    → AreRowsFrom 1 n.view.content.votes → LeadTo n.id (r ∷ []) n.view.content o.view.content
