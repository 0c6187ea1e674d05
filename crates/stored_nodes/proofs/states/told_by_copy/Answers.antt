use Rattle.std.proofs.Common.{refl, subst}
use Rattle.acceptor_store_parts.specs.declared.owner.Owner.{Owner}
use Rattle.sqlite.specs.Files.{faults_of, image_of}
use Rattle.stored_nodes.specs.Looks.{IsToldIn}
use Rattle.stored_nodes.specs.States.{IsTold}
use Rattle.stored_nodes.proofs.Looked.{told_seen}
use Rattle.stored_nodes.proofs.states.told_by_copy.Goals as goal

pub returns-in-Ok-clause-seen : goal.returns-in-Ok-clause-seen
returns-in-Ok-clause-seen g c clean =
    let wanted : Owner = record { node = c.args.id; members = c.args.members } in
    told_seen (image_of g.D.Disk c.args.files.now) wanted (faults_of g.D.Disk c.args.files.now) (faults_of g.D.Disk c.copy_of.new.files) c.told_copy.result
    (subst (λ i. IsTold (IsToldIn i wanted) c.told_copy.result) (c.in-Ok.ensures.same clean) (c.told_copy.ensures (λ log db. refl)))
