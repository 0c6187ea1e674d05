use Rattle.std.proofs.Common.{rules, ◌≡◌, ◌∙◌, Result, Err, IsErrAnd, ap, ap₂, inl, inr, subst, sym}
use Rattle.std.proofs.lemmas.Bool.{and_from, and_parts}
use Rattle.std.proofs.lemmas.Option.{same_Some}
use Rattle.log_ties.specs.declared.tie.Loss.{Loss}
use Rattle.log_ties.specs.declared.tie.Tie.{Tie}
use Rattle.sqlite.specs.Files.{faults_of, image_of}
use Rattle.stored_nodes.specs.Lost.{TellsLoss}
use Rattle.stored_nodes.specs.Tableless.{IsLostByTables, ShowsByTables}
use Rattle.stored_nodes.specs.declared.start.StartFault.{StartFault}
use Rattle.stored_nodes.specs.declared.start.StartFault.TheVariants.{Lost}
use Rattle.stored_nodes.proofs.Timed.{image_with, some_of, tells_unknown, untied_unknown}
use Rattle.stored_nodes.proofs.ties.refuse_lost.Goals as goal

pub returns-in_err-tie-clause-lost : goal.returns-in_err-tie-clause-lost
returns-in_err-tie-clause-lost g c loss lost clean =
    let fault = c.in_err-tie.field-0.0 in
    let is : c.from_residual.result ≡ Err fault = search rules in
    let told : TellsLoss loss fault = elim lost [
      | inl here ↦ c.in_err-tie.ensures.lost loss here clean
      | inr other ↦ untied_unknown (image_of g.D.Disk c.args.files.now) (faults_of g.D.Disk c.args.files.now) (faults_of g.D.Disk c.refuse_untied.new.files) loss fault other.0 (c.in_err-tie.ensures.due clean)
    ] in
    subst (λ (r : Result Tie StartFault). IsErrAnd r (TellsLoss loss)) (sym is) told

pub returns-in-Ok-Some-clause-lost : goal.returns-in-Ok-Some-clause-lost
returns-in-Ok-Some-clause-lost g c loss lost clean =
    let sure = and_parts (g.D.Disk.is_clean c.lost_by_tables.new.files.log) (g.D.Disk.is_clean c.lost_by_tables.new.files.db) clean in
    let before = and_from (g.D.Disk.is_clean c.refuse_untied.new.files.log) (g.D.Disk.is_clean c.refuse_untied.new.files.db) (c.lost_by_tables.ensures.log.clean sure.0) (c.lost_by_tables.ensures.db.clean sure.1) in
    let same = ap₂ image_with c.refuse_untied.ensures.log.seen c.refuse_untied.ensures.db.seen in
    elim lost [
      | inl here ↦ absurd (c.in_ok-tie.ensures.lost loss here before)
      | inr other ↦
          let found = c.in-Ok-Some.ensures.told loss (subst (λ i. IsLostByTables i loss) (sym same) other.1) clean in
          inl (ap (λ (l : Loss). Lost l) (same_Some c.in-Ok-Some.loss loss (sym c.in-Ok-Some.field-0-is ∙ found)))
    ]

pub returns-in-Ok-Some-clause-due : goal.returns-in-Ok-Some-clause-due
returns-in-Ok-Some-clause-due g c clean =
    let same = ap₂ image_with c.refuse_untied.ensures.log.seen c.refuse_untied.ensures.db.seen in
    let shown = some_of (ShowsByTables (image_of g.D.Disk c.refuse_untied.new.files)) c.in-Ok-Some.field-0 c.in-Ok-Some.loss c.in-Ok-Some.field-0-is (c.in-Ok-Some.ensures.shown clean) in
    inr (subst (λ i. ShowsByTables i c.in-Ok-Some.loss) same shown)

pub returns-in-Ok-None-clause-lost : goal.returns-in-Ok-None-clause-lost
returns-in-Ok-None-clause-lost g c loss lost clean =
    let sure = and_parts (g.D.Disk.is_clean c.lost_by_tables.new.files.log) (g.D.Disk.is_clean c.lost_by_tables.new.files.db) clean in
    let before = and_from (g.D.Disk.is_clean c.refuse_untied.new.files.log) (g.D.Disk.is_clean c.refuse_untied.new.files.db) (c.lost_by_tables.ensures.log.clean sure.0) (c.lost_by_tables.ensures.db.clean sure.1) in
    let same = ap₂ image_with c.refuse_untied.ensures.log.seen c.refuse_untied.ensures.db.seen in
    elim lost [
      | inl here ↦ c.in_ok-tie.ensures.lost loss here before
      | inr other ↦
          let found = c.in-Ok-None.ensures.told loss (subst (λ i. IsLostByTables i loss) (sym same) other.1) clean in
          cc (sym c.in-Ok-None.field-0-is ∙ found)
    ]

pub returns-in-Err-clause-lost : goal.returns-in-Err-clause-lost
returns-in-Err-clause-lost g c loss lost clean =
    tells_unknown (image_of g.D.Disk c.refuse_untied.new.files) (faults_of g.D.Disk c.refuse_untied.new.files) (faults_of g.D.Disk c.lost_by_tables.new.files) loss c.in-Err.fault (c.in-Err.ensures.due clean)
