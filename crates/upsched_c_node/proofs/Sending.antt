-- What the calls of a node hand out, whatever they answer.
use Rattle.std.proofs.Common.{◌≡◌, ℕ, ◌-◌, ◌<◌, None, Option, List, Vec, Result, Ok, length, sym, ap, subst, ◌∙◌, arith}
use Rattle.std.proofs.Common.{slice_get}
use Rattle.std.specs.Option.{MatchOption}
use Rattle.std.specs.declared.alloc.Global.{Global}
use Rattle.ballots.specs.declared.letters.Letter.{Letter}
use Rattle.node.specs.Calls.{Cause}
use Rattle.node.specs.Calls.Cause.{Receive, Lead}
use Rattle.node.specs.Step.{Outcome}
use Rattle.proposer.specs.declared.fault.NodeFault.{NodeFault as Fault}
use Rattle.told_writes.proofs.Callers.{written}
use Rattle.node_writes.specs.declared.write_bytes.WriteBytes.{WriteBytes}
use Rattle.upsched_c_node.specs.Calls.{Sends, Sent, sent}
use Rattle.upsched_c_node.specs.States.{Answered, NodeState, Takes}
use Rattle.upsched_c_node.specs.declared.handle.Held.{Held}
use Rattle.upsched_c_node.specs.declared.status.Status.{Status}
use Rattle.upsched_c_node.specs.declared.status.Status.TheVariants as statuses
use Rattle.told_writes.specs.Telling.{IsOpen, TellsWrite, WritesAfter}
use Rattle.node_writes.specs.Writes.{SpellsOf}
use Rattle.told_writes.specs.Writes.{HandsOut}

-- a call that was answered
pub sends_ok : (cause : Cause) (k after : Held) (node : NodeState) (letters : Vec Letter Global) (made write : WriteBytes) (old : Sent) (count : ℕ) (status : Status)
    → Answered k.node cause (Ok letters.items) node
    → ((o : Outcome) → Takes k.node cause (Ok o) → letters.items ≡ o.letters → node ≡ record k.node { view = o.view } → HandsOut k.node.id k.node.view.content o.write made)
    → status ≡ statuses.Done → write ≡ made → count ≡ length letters.items → after ≡ record k { node = node; letters = letters }
    → Sends cause k old after (sent write count) status
sends_ok cause k after node letters made write old count status answered hands done written counted is =
    let o = answered.0 in
    subst (Sends cause k old after (sent write count)) (sym done) (
      o,
      answered.1,
      ap (λ (h : Held). h.node) is ∙ answered.3,
      ap (λ (h : Held). h.letters.items) is ∙ answered.2,
      ap (λ (h : Held). h.outputs) is,
      subst (HandsOut k.node.id k.node.view.content o.write) (sym written) (hands o answered.1 answered.2 answered.3),
      counted ∙ ap (λ (ls : List Letter). length ls) answered.2,
    )

-- what a lead hands out, by what its last letter tells of
pub lead_tells : (n node : NodeState) (id : ℕ) (seen letters : List Letter) (r : WriteBytes) → id ≡ node.id → id < node.members → seen ≡ letters
    → MatchOption (slice_get seen (length seen - 1)) (SpellsOf id r None) (λ l. TellsWrite id l.note r)
    → (o : Outcome) → Takes n Lead (Ok o) → letters ≡ o.letters → node ≡ record n { view = o.view } → HandsOut n.id n.view.content o.write r
lead_tells n node id seen letters r same member is told o takes sent_is after =
    let me : id ≡ n.id = same ∙ ap (λ (m : NodeState). m.id) after in
    let all : node.members ≡ n.members = ap (λ (m : NodeState). m.members) after in
    written n Lead o r (omega (arith, member, me, all)) takes
    (subst (λ (ls : List Letter). MatchOption (slice_get ls (length ls - 1)) (SpellsOf n.id r None) (λ l. TellsWrite n.id l.note r)) (is ∙ sent_is)
    (subst (λ (k : ℕ). MatchOption (slice_get seen (length seen - 1)) (SpellsOf k r None) (λ l. TellsWrite k l.note r)) me told))

-- what the call of a letter hands out
pub letter_tells : (n node : NodeState) (id : ℕ) (before learned : List (ℕ × List ℕ)) (seen letters : List Letter) (r : WriteBytes) (l : Letter) (place : Option ℕ)
    → before ≡ n.view.tally.learned → IsOpen before l.note place → id ≡ node.id → learned ≡ node.view.tally.learned → node.id < node.members → seen ≡ letters
    → WritesAfter id learned seen place r
    → (o : Outcome) → Takes n (Receive l) (Ok o) → letters ≡ o.letters → node ≡ record n { view = o.view } → HandsOut n.id n.view.content o.write r
letter_tells n node id before learned seen letters r l place was opened same is_learned member is told o takes sent_is after =
    let me : id ≡ n.id = same ∙ ap (λ (m : NodeState). m.id) after in
    let all : node.members ≡ n.members = ap (λ (m : NodeState). m.members) after in
    let now : learned ≡ o.view.tally.learned = is_learned ∙ ap (λ (m : NodeState). m.view.tally.learned) after in
    written n (Receive l) o r (omega (arith, member, same, me, all)) takes (
      place,
      subst (λ (rows : List (ℕ × List ℕ)). IsOpen rows l.note place) was opened,
      subst (λ (k : ℕ). WritesAfter k o.view.tally.learned o.letters place r) me
          (subst (λ (rows : List (ℕ × List ℕ)). WritesAfter id rows o.letters place r) now (subst (λ (ls : List Letter). WritesAfter id learned ls place r) (is ∙ sent_is) told)),
    )
