use Rattle.std.proofs.Common.{ap₂, subst, sym}
use Rattle.std.proofs.lemmas.Bool.{and_from, and_parts}
use Rattle.sqlite.specs.Files.{faults_of, image_of}
use Rattle.stored_nodes.specs.States.{IsTold}
use Rattle.stored_nodes.specs.Told.{IsStateOf}
use Rattle.stored_nodes.proofs.Looked.{image_with, told_due, told_since}
use Rattle.stored_nodes.proofs.states.told_of.Goals as goal

pub returns-in-Ok-clause-so : goal.returns-in-Ok-clause-so
returns-in-Ok-clause-so g c usable clean =
    let mid = faults_of g.D.Disk c.refuse_lost.new.files in
    let new = faults_of g.D.Disk c.told_whole.new.files in
    told_since (image_of g.D.Disk c.args.files.now) c.args.id (faults_of g.D.Disk c.args.files.now) mid new c.refuse_lost.ensures.counts c.told_whole.result
    (subst (λ i. IsTold (IsStateOf i c.args.id mid new) c.told_whole.result) (ap₂ image_with c.refuse_lost.ensures.log.seen c.refuse_lost.ensures.db.seen) (c.told_whole.ensures.so clean))

pub returns-in-Ok-clause-lost : goal.returns-in-Ok-clause-lost
returns-in-Ok-clause-lost g c usable loss lost clean =
    let sure = and_parts (g.D.Disk.is_clean c.told_whole.new.files.log) (g.D.Disk.is_clean c.told_whole.new.files.db) clean in
    let stays = c.told_whole.ensures.files in
    absurd (c.in-Ok.ensures.lost loss lost (and_from (g.D.Disk.is_clean c.refuse_lost.new.files.log) (g.D.Disk.is_clean c.refuse_lost.new.files.db) (stays.0.2 sure.0) (stays.1.2 sure.1)))

pub returns-in-Err-clause-so : goal.returns-in-Err-clause-so
returns-in-Err-clause-so g c usable clean =
    let old = faults_of g.D.Disk c.args.files.now in
    let new = faults_of g.D.Disk c.refuse_lost.new.files in
    subst (λ t. IsTold (IsStateOf (image_of g.D.Disk c.args.files.now) c.args.id old new) t) (sym c.told_start.ensures)
    (told_due (image_of g.D.Disk c.args.files.now) c.args.id old new c.in-Err.fault (c.in-Err.ensures.due clean))
