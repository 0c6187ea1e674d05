use Rattle.std.proofs.Common.{◌∙◌, ap₂, inl, inr, subst, sym}
use Rattle.std.proofs.lemmas.Bool.{and_from, and_parts}
use Rattle.stored_nodes.specs.Tableless.{IsTableless}
use Rattle.stored_nodes.proofs.Timed.{image_with}
use Rattle.stored_nodes.proofs.tableless.lost_by_tables.Goals as goal

pub returns-in-None-clause-told : goal.returns-in-None-clause-told
returns-in-None-clause-told g c loss lost clean =
    let sure = and_parts (g.D.Disk.is_clean c.tableless_of.new.files.log) (g.D.Disk.is_clean c.tableless_of.new.files.db) clean in
    let before = and_from (g.D.Disk.is_clean c.other_time_of.new.files.log) (g.D.Disk.is_clean c.other_time_of.new.files.db) (c.tableless_of.ensures.log.clean sure.0) (c.tableless_of.ensures.db.clean sure.1) in
    let same = ap₂ image_with c.other_time_of.ensures.log.seen c.other_time_of.ensures.db.seen in
    elim lost [
      | inl time ↦ absurd (cc (sym c.in-None.is ∙ c.in_ok-loss.ensures.told loss time before))
      | inr it ↦ c.tableless_of.ensures.told loss (subst (λ i. IsTableless i loss) (sym same) it.1) clean
    ]
