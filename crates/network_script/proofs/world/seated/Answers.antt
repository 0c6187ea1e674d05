use Rattle.std.proofs.Common.{◌≡◌, true, false, sym}
use Rattle.std.proofs.lemmas.List.Elements.{All-head, All-tail, All-same, All-push}
use Rattle.seats.specs.declared.seat.Seat.{Seat}
use Rattle.seats.specs.Occupant.{is_up, node_of}
use Rattle.network_script.proofs.Places.{grown}
use Rattle.network_script.proofs.world.seated.Goals as goal

pub new-requires : goal.new-requires
new-requires g c =
    let P = λ (node : g.row.N.Denot). (g.N.Node.who node).down ≡ false in
    All-head P c.in-Some.node _ (All-same P _ _ (sym c.in-Some.ensures.steps.0) c.loop-node.invariant.runs)

pub loop-node-preserved : goal.loop-node-preserved
loop-node-preserved g c =
    let P = λ (node : g.row.N.Denot). (g.N.Node.who node).down ≡ false in
    let all = All-same P _ _ (sym c.in-Some.ensures.steps.0) c.loop-node.invariant.runs in
    let U = λ (seat : Seat g.row.N.Denot g.N.Node). is_up seat ≡ true in
    record {
      whole = grown node_of c.loop-node.seats.items _ _ c.in-Some.node _ _ _ c.in_ok-push.ensures.items c.new.ensures.node c.in-Some.ensures.steps.0 c.loop-node.invariant.whole;
      runs = All-tail P c.in-Some.node _ all;
      up = All-same U _ _ c.in_ok-push.ensures.items (All-push U c.loop-node.seats.items _ c.loop-node.invariant.up c.new.ensures.up);
    }
