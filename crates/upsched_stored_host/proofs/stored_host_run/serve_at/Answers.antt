use Rattle.std.proofs.Common.{refl}
use Rattle.upsched_stored_host.proofs.stored_host_run.serve_at.Goals as goal

pub returns : goal.returns
returns g c = record {
  given = _;
  left = c.serve_over-told.result;
  of = c.in-Some.ensures.1;
  places = refl;
  runs = c.serve_over-told.ensures;
  tells = c.with_cause.ensures;
}
