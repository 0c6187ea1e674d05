use Rattle.upsched_audit.specs.Audits.{AreHeld}
use Rattle.upsched_audit.proofs.journals.journals_of.Given as goal

abbrev pub invariant-loop-held : goal.invariant-loop-held
invariant-loop-held g l = AreHeld (λ f. g.R.Read.remaining f.file) l.yielded l.journals.items
