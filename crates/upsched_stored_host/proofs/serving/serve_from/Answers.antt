use Rattle.std.proofs.Common.{inl, inr, refl}
use Rattle.upsched_stored_host.proofs.serving.serve_from.Goals as goal

pub returns-in-Ok-clause-served : goal.returns-in-Ok-clause-served
returns-in-Ok-clause-served g c = inl (c.tell_first.new.output, c.in-Ok.ensures.written, c.serve.ensures.served)

pub returns-in-Err-clause-served : goal.returns-in-Err-clause-served
returns-in-Err-clause-served g c = inr (c.in-Err.why, c.in-Err.ensures.fails, refl, refl)
