-- What an ended program tells of the audit.
use Rattle.std.proofs.Common.{rules, ◌≡◌, ℕ, List, Option, Result, Ok, Err, IsOk, sym, ◌∙◌}
use Rattle.std.specs.Io.KnownBytes.{Appends}
use Rattle.node_worker.specs.declared.audits.Torn.{Torn}
use Rattle.upsched_ends.specs.declared.status.Status.{Status}
use Rattle.upsched_ends.specs.declared.status.Status.TheVariants.{Done}
use Rattle.upsched_live.specs.Verdict.{verdict_line, verdict_status}

-- a program that ends as done found no fault
pub done_is_ok : (verdict : Result (Unit {0}) Torn) (status : Status) → status ≡ verdict_status verdict → status ≡ Done → IsOk verdict
done_is_ok (Ok whole) status ends done = search rules
done_is_ok (Err torn) status ends done = absurd (let no : verdict_status (Err torn) ≡ Done = sym ends ∙ done in cc)

-- a program that ends as done has printed that the audit found no fault
pub done_is_yes : (verdict : Result (Unit {0}) Torn) (status : Status) (old new : Option (List ℕ)) → status ≡ verdict_status verdict → Appends old new (verdict_line verdict)
    → status ≡ Done → Appends old new (verdict_line (Ok tt))
done_is_yes (Ok whole) status old new ends grown done = grown
done_is_yes (Err torn) status old new ends grown done = absurd (let no : verdict_status (Err torn) ≡ Done = sym ends ∙ done in cc)
