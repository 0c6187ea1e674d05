use Rattle.std.proofs.Common.{◌≡◌, inl, inr, refl}
use Rattle.host_service.specs.Replying.{host_of}
use Rattle.host_service.specs.Texts.{begins_text}
use Rattle.host_service.specs.declared.reply.Beginning.{Beginning}
use Rattle.node_service.specs.declared.batches.BatchedEnd.TheVariants as ends
use Rattle.upsched_node.specs.First.{TellsFirst}
use Rattle.upsched_stored_host.specs.Serving.{HasServed}
use Rattle.upsched_stored_host.proofs.Served.{of_digest}
use Rattle.upsched_stored_host.proofs.serving.serve_on.Goals as goal

pub returns-in-Ok-clause-served : goal.returns-in-Ok-clause-served
returns-in-Ok-clause-served g c =
    let Holds = λ (b : Beginning). TellsFirst g.O.Outbox (begins_text c.args.who.0 c.args.who.1 c.args.who.2 b)
    (λ why. c.serve_from.result ≡ ends.Unwritten why) c.args.input.now c.args.output.now c.serve_from.new.input c.serve_from.new.output
    (λ sent. HasServed g.I.Lines g.O.Outbox c.args.server.now c.serve_from.result c.serve_from.new.server c.args.input.now sent c.serve_from.new.input c.serve_from.new.output) in
    inl (of_digest (host_of c.args.server.now) Holds c.in-Ok.begins (rw c.host.ensures at c.in-Ok.ensures) c.serve_from.ensures.served)

pub returns-in-Err-clause-served : goal.returns-in-Err-clause-served
returns-in-Err-clause-served g c = inr ((refl, refl), refl)
