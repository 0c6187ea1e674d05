use Rattle.sqlite.specs.Files.{file_state, image_of}
use Rattle.stored_nodes.proofs.Copied.{each_clean}
use Rattle.stored_nodes.proofs.Looked.{told_in}
use Rattle.stored_nodes.proofs.looks.told_copy.Goals as goal

pub returns-in-Ok : goal.returns-in-Ok
returns-in-Ok g c never =
    told_in (image_of g.D.Disk c.args.files) (record { node = c.args.id; members = c.args.members }) (file_state c.in-Ok.conn).now c.told_over.result (c.in-Ok.ensures.read never)
    (c.told_over.ensures (each_clean {g = g.D.Disk} never) (c.in-Ok.ensures.opened never).0)
