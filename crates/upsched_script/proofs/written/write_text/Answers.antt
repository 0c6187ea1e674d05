use Rattle.upsched_script.proofs.Tried.{kept_behind}
use Rattle.upsched_script.proofs.written.write_text.Goals as goal

pub returns : goal.returns
returns g c = kept_behind c.flush.result _ _ _ _ (rw c.as_bytes.ensures.value at c.in_ok-write_bytes.ensures) c.flush.ensures
