use Rattle.host_service.specs.Replying.{host_keeper}
use Rattle.host_service.specs.Texts.{host_text}
use Rattle.upsched_stored_host.proofs.Served.{is_end}
use Rattle.upsched_stored_host.proofs.serving.serve.Goals as goal

pub returns-clause-served : goal.returns-clause-served
returns-clause-served g c = record {
  ends = c.serve_host.ensures.ends;
  kept = c.serve_host.ensures.kept;
  views = c.serve_host.ensures.views c.requires.never c.requires.members;
}

pub returns-clause-ended : goal.returns-clause-ended
returns-clause-ended g c =
    is_end host_keeper host_text g.I.Lines g.O.Outbox c.serve_host.result c.args.server.now c.args.input.now c.args.output.now
    c.serve_host.new.server c.serve_host.new.input c.serve_host.new.output c.serve_host.ensures.ends
