use Rattle.host_service.proofs.Ends.{all_kept, serves_from}
use Rattle.host_service.proofs.service.serve_host.Goals as goal

pub returns-clause-views : goal.returns-clause-views
returns-clause-views g c = λ never members v stands.
    serves_from g.I.Lines g.O.Outbox c.serve_batched.result c.args.server.now c.args.input.now c.args.output.now c.serve_batched.new.keeper c.serve_batched.new.input c.serve_batched.new.output
    c.serve_batched.ensures never members v stands

pub returns-clause-kept : goal.returns-clause-kept
returns-clause-kept g c =
    all_kept g.I.Lines g.O.Outbox c.serve_batched.result c.args.server.now c.args.input.now c.args.output.now c.serve_batched.new.keeper c.serve_batched.new.input c.serve_batched.new.output c.serve_batched.ensures
