use Rattle.std.proofs.Common.{◌≡◌, ℕ, ◌+◌, List, [], ◌∷◌, ◌++◌, true, ap, ◌∙◌, length-append}
use Rattle.node_service.proofs.Served.{one_more, turn_of}
use Rattle.node_service.specs.declared.outgoing.Reply.{Reply}
use Rattle.node_service.proofs.service.serve.Goals as goal

pub returns-in-Err : goal.returns-in-Err
returns-in-Err g c =
    let up : g.A.Actor.up c.loop-count.actor ≡ true = cc (c.can_act.ensures, c.if-not-can_act.false) in
    let turn = turn_of g.A.Actor g.I.Input c.in-Ok.what c.in-Some.reply c.loop-count.actor c.loop-count.input c.reply_to.new.actor c.next_request.new.self
    up c.in-Ok.ensures.comes c.in-Ok.ensures.gives c.in-Some.ensures in (
      c.loop-count.invariant.0,
      c.loop-count.actor,
      c.loop-count.input,
      c.loop-count.output,
      turn.0,
      c.in-Some.reply,
      c.loop-count.invariant.1,
      turn.2,
      turn.1,
      c.in-Err.ensures.fails,
    )

pub loop-count-preserved : goal.loop-count-preserved
loop-count-preserved g c =
    let up : g.A.Actor.up c.loop-count.actor ≡ true = cc (c.can_act.ensures, c.if-not-can_act.false) in
    let turn = turn_of g.A.Actor g.I.Input c.in-Ok.what c.in-Some.reply c.loop-count.actor c.loop-count.input c.reply_to.new.actor c.next_request.new.self
    up c.in-Ok.ensures.comes c.in-Ok.ensures.gives c.in-Some.ensures in
    let turns : List (List ℕ × Reply) = c.loop-count.invariant.0 in (
      turns ++ (turn.0, c.in-Some.reply) ∷ [],
      one_more g.A.Actor g.I.Input g.O.Output turns turn.0 c.in-Some.reply c.args.actor.now c.args.input.now c.args.output.now
          c.loop-count.actor c.loop-count.input c.loop-count.output c.reply_to.new.actor c.next_request.new.self c.write_reply.new.self
          c.loop-count.invariant.1 turn.2 turn.1.1 c.in_default-write_reply.ensures.written,
      length-append turns ((turn.0, c.in-Some.reply) ∷ []) ∙ ap (λ (n : ℕ). n + 1) c.loop-count.invariant.2,
    )
