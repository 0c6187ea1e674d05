use Rattle.std.proofs.Common.{refl}
use Rattle.proposer.proofs.Turning.{spent_in_memory}
use Rattle.proposer.proofs.memory.lead_without_ballots.Goals as goal

pub returns : goal.returns
returns c =
    spent_in_memory c.lead.result _ (λ lacks. lacks.2) (c.lead.ensures.spent refl c.args.records.now (∣ refl ∣₁, λ d is. is) c.requires.room c.requires.spent) c.lead.ensures.count
