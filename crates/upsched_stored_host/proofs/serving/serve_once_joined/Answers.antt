use Rattle.std.proofs.Common.{inl}
use Rattle.upsched_stored_host.proofs.serving.serve_once_joined.Goals as goal

pub serve_behind_state-requires-clause-waits : goal.serve_behind_state-requires-clause-waits
serve_behind_state-requires-clause-waits g c = (c.args.opens, c.args.who.2, c.new-waiting.ensures)

pub returns-in-Ok : goal.returns-in-Ok
returns-in-Ok g c = inl (c.tell_first.new.output, c.in-Ok.ensures.written, c.serve_behind_state.ensures c.args.opens c.args.who.2 c.new-waiting.ensures)
