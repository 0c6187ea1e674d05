use Rattle.std.proofs.Common.{◌≡◌, Some, sym, subst}
use Rattle.node_service.specs.Batched.{EndsBatchedBy}
use Rattle.node_service.specs.declared.batches.BatchedEnd.{BatchedEnd}
use Rattle.node_service.specs.declared.batches.BatchedEnd.TheVariants as ends
use Rattle.host_service.specs.Texts.{host_text}
use Rattle.host_service.specs.Waiting.{HasWaited, waiting_keeper}
use Rattle.host_service.proofs.Awaited.{has_waited}
use Rattle.host_service.proofs.waiting.wait_for_state.Goals as goal

pub returns-in-Some-clause-joins : goal.returns-in-Some-clause-joins
returns-in-Some-clause-joins g c = λ opens places waits.
    let ended : EndsBatchedBy waiting_keeper host_text g.I.Lines g.O.Outbox ends.Crashed c.args.waiting.now c.args.input.now c.args.output.now c.serve_batched.new.keeper c.serve_batched.new.input c.serve_batched.new.output =
    subst (λ (end : BatchedEnd). EndsBatchedBy waiting_keeper host_text g.I.Lines g.O.Outbox end c.args.waiting.now c.args.input.now c.args.output.now c.serve_batched.new.keeper c.serve_batched.new.input c.serve_batched.new.output)
    c.in-Crashed.is c.serve_batched.ensures in
    let is : c.serve_batched.new.keeper.host ≡ Some c.in-Some.host = cc (c.take.ensures.value, c.in-Some.is) in
    subst (λ host. HasWaited g.I.Lines g.O.Outbox opens places host c.args.input.now c.args.output.now c.serve_batched.new.input c.serve_batched.new.output) (sym c.new.ensures)
    (has_waited g.I.Lines g.O.Outbox c.args.waiting.now c.args.input.now c.args.output.now c.serve_batched.new.keeper c.serve_batched.new.input c.serve_batched.new.output opens places c.in-Some.host ended waits is)

pub returns-in-None-clause-ends : goal.returns-in-None-clause-ends
returns-in-None-clause-ends g c =
    let w = c.serve_batched.new.keeper in
    let ended : EndsBatchedBy waiting_keeper host_text g.I.Lines g.O.Outbox ends.Crashed c.args.waiting.now c.args.input.now c.args.output.now w c.serve_batched.new.input c.serve_batched.new.output =
    subst (λ (end : BatchedEnd). EndsBatchedBy waiting_keeper host_text g.I.Lines g.O.Outbox end c.args.waiting.now c.args.input.now c.args.output.now w c.serve_batched.new.input c.serve_batched.new.output)
    c.in-Crashed.is c.serve_batched.ensures in
    let gone : c.take.new.self ≡ w.host = cc (c.take.ensures.value, c.take.ensures.after, c.in-None.is) in
    subst (λ host. EndsBatchedBy waiting_keeper host_text g.I.Lines g.O.Outbox ends.Crashed c.args.waiting.now c.args.input.now c.args.output.now (record w { host = host }) c.serve_batched.new.input c.serve_batched.new.output)
    (sym gone) ended
