use Rattle.std.proofs.Common.{inl, inr}
use Rattle.upsched_stored_host.proofs.serving.serve_behind_state.Goals as goal

pub serve-end-requires : goal.serve-end-requires
serve-end-requires g c =
    let joined = (c.in-Ok.ensures.joins c.requires.waits.0 c.requires.waits.1 c.requires.waits.2).joined in
    record { kept = joined.kept; members = joined.members; never = c.requires.never }

pub returns-in-Ok : goal.returns-in-Ok
returns-in-Ok g c = λ opens places is. inl (
  c.in-Ok.server,
  c.serve-end.new.server,
  c.serve-end.result,
  c.wait_for_state.new.input,
  c.wait_for_state.new.output,
  c.in-Ok.ensures.joins opens places is,
  c.serve-end.ensures.served,
  c.ended.ensures,
)

pub returns-in-Err : goal.returns-in-Err
returns-in-Err g c = λ opens places is.
    inr (c.args.waiting.now, c.wait_for_state.new.waiting, c.in-Err.end, is, c.in-Err.ensures.ends, c.unjoined.ensures)
