use Rattle.std.proofs.Common.{◌∙◌, sym}
use Rattle.sqlite.specs.Files.{file_state, image_of}
use Rattle.stored_nodes.proofs.Blank.{found_blank}
use Rattle.stored_nodes.proofs.tableless.is_blank_in.Goals as goal

pub returns-in-Ok : goal.returns-in-Ok
returns-in-Ok g c never =
    let same = c.schema.ensures.value in
    found_blank (image_of g.D.Disk c.args.copy) (file_state c.in-Ok.conn).now c.is_blank.result (c.in-Ok.ensures.read never) (λ yes'. sym same ∙ c.is_blank.ensures.yes yes') (λ blank. c.is_blank.ensures.all (same ∙ blank))
