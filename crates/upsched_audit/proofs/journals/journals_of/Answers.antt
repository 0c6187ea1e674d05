use Rattle.std.proofs.Common.{◌≡◌, List, ℕ, [], ◌∷◌, ◌++◌, sym, subst, rules}
use Rattle.upsched_audit.specs.Audits.{AreHeld}
use Rattle.upsched_audit.proofs.Holding.{held_more}
use Rattle.upsched_audit.proofs.journals.journals_of.Goals as goal

pub loop-held-preserved : goal.loop-held-preserved
loop-held-preserved g c =
    let pushed : c.push.new.self.items ≡ c.loop-held.journals.items ++ c.in_ok-journal.journal ∷ [] = search rules in
    subst (λ (journals : List (List ℕ)). AreHeld (λ f. g.R.Read.remaining f.file) (c.loop-held.yielded ++ c.in-Some.held ∷ []) journals) (sym pushed)
    (held_more (λ f. g.R.Read.remaining f.file) c.loop-held.yielded c.loop-held.journals.items c.in-Some.held c.in_ok-journal.journal c.loop-held.invariant c.in_ok-journal.ensures.journal)
