use Rattle.upsched_host.proofs.Callers.{as_named}
use Rattle.upsched_stored_host.proofs.Named.{runs_as}
use Rattle.upsched_stored_host.proofs.stored_host_run.stored_host.Goals as goal

pub serve_at-told-requires : goal.serve_at-told-requires
serve_at-told-requires g c = c.in-Ok.ensures.member.one_of_them

pub returns-in-Ok-clause-named : goal.returns-in-Ok-clause-named
returns-in-Ok-clause-named g c = λ who names. (
  c.serve_at-told.result,
  c.tell_end.ensures.status,
  runs_as c.in-Ok.who who (as_named c.args.words.now who c.in-Ok.who names c.in-Ok.ensures) c.serve_at-told.ensures,
)

pub returns-in-Ok-clause-unnamed : goal.returns-in-Ok-clause-unnamed
returns-in-Ok-clause-unnamed g c = λ none. absurd (none c.in-Ok.who c.in-Ok.ensures)
