-- A new node that serves.
use Rattle.std.proofs.Common.{◌≡◌, ◌↔◌, inr, ℕ, Bool, true, false, Result, Ok, Err, IsOk, MatchResult, refl, sym, ap}
use Rattle.std.proofs.Common.{◌∙◌, subst}
use Rattle.std.specs.Io.KnownBytes.{Appends}
use Rattle.acceptor.specs.Content.{no_content}
use Rattle.ballots.specs.Members.{member_count}
use Rattle.ballots.specs.declared.members.Members.{Members}
use Rattle.node.specs.declared.node.Node.{Ghosts}
use Rattle.node.specs.View.{started}
use Rattle.node.specs.View.Standing.{Running}
use Rattle.node_service.specs.declared.incoming.Input.{Ghosts as Inputs}
use Rattle.node_service.specs.declared.outgoing.Output.{Ghosts as Outputs}
use Rattle.node_service.specs.declared.outgoing.Reply.TheVariants as reply
use Rattle.node_service.specs.declared.service.End.{End}
use Rattle.node_service.specs.declared.service.End.TheVariants as ends
use Rattle.node_service.specs.Texts.{reply_text}
use Rattle.seats.specs.Occupant.{is_up, node_of}
use Rattle.seats.specs.Seat.{Shown}
use Rattle.seats.specs.declared.seat.Seat.{Seat}
use Rattle.upsched_ends.specs.declared.status.Status.TheVariants.{Done, Faulted}
use Rattle.upsched_node.specs.Serving.{IsNewSeat, RunsNode, ServesAs}

pub new_seat : {N : Type 0} {g : Ghosts N} (me all : ℕ) (node : N) (seat : Seat N g) → node_of seat ≡ node → is_up seat ≡ true → (g.who node).id ≡ me → (g.who node).members ≡ all
    → g.stands node (Running (started no_content)) → IsNewSeat me all seat
new_seat {N} {g} me all node seat is up id members stands = record {
  id = ap (λ (n : N). (g.who n).id) is ∙ id;
  members = ap (λ (n : N). (g.who n).members) is ∙ members;
  stands = subst (λ (b : Bool). Shown b (g.stands (node_of seat)) (Running (started no_content))) (sym up)
      (subst (λ (n : N). g.stands n (Running (started no_content))) (sym is) stands, started no_content, refl);
}

-- how it ended is told
told : {I O F : Type 0} (input : Inputs I) (output : Outputs O) (id : ℕ) (count : Members) (r : Result (Unit {0}) F) (end : End) (i : I) (o sent : O) (i' : I) (o' : O)
    → Appends (output.bytes_held o) (output.bytes_held sent) (reply_text (reply.Fresh id count)) → ServesAs input output (member_count count) id (Running (started no_content)) end i sent i' o'
    → (IsOk r ↔ (end ≡ ends.Input)) → MatchResult r (λ done. RunsNode input output id count Done i o i' o') (λ fault. RunsNode input output id count Faulted i o i' o')
told input output id count (Ok done) end i o sent i' o' written serves tells =
    (sent, written, subst (λ (x : End). ServesAs input output (member_count count) id (Running (started no_content)) x i sent i' o') (tells.0 refl) serves)
told input output id count (Err fault) end i o sent i' o' written serves tells = inr (sent, end, written, (λ is. let wrong : false ≡ true = tells.1 is in cc), serves)
